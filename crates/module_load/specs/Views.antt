-- No definition of the language: what the parts of `prepare` and `decide` answer.
use Rattle.std.specs.Prelude.{◌≡◌, ℕ, if◌then◌else◌, List, Result, Ok, Err}
use Rattle.py_tree.specs.Syntax.{Text, Statements}
use Rattle.py_tree.specs.declared.fault.Stop.{Stop}
use Rattle.py_tree.specs.declared.fault.Stop.TheVariants as stop
use Rattle.py_lexer.specs.declared.token.LogicalLine.{LogicalLine}
use Rattle.py_expr.specs.LineAnswers.{IsSo}
use Rattle.py_blocks.specs.declared.form_line.FormLine.{FormLine}
use Rattle.py_blocks.specs.Rows.{rows_of}
use Rattle.symbols.specs.Names.{with_name}
use Rattle.symbols.specs.declared.outer.OuterBinding.{OuterBinding}
use Rattle.module_load.specs.declared.source.SourceState.{SourceState}
use Rattle.module_load.specs.declared.globals.ModuleGlobal.{ModuleGlobal}
use Rattle.module_load.specs.declared.verdict.Verdict.TheVariants.{Published, Refused}
use Rattle.module_load.specs.Decisions.{Decisions}
use Rattle.module_load.specs.RightDecisions.{IsRight, is_module}
use Rattle.module_load.specs.Sources.{faulty, state_of}
use Rattle.module_load.specs.Preparing.{Forms, FirstFault, Prepares}

-- the form of a line, with where the line begins
abbrev pub IsLineFormed : LogicalLine → Result FormLine Stop → Type 0
IsLineFormed line (Ok made) = (made.indent ≡ line.indent) × (made.line ≡ line.line) × IsSo line.tokens line.line (Ok made.form)
IsLineFormed line (Err o) = IsSo line.tokens line.line (Err o)

-- the forms of lines
abbrev pub IsFormed : List LogicalLine → Result (List FormLine) Stop → Type 0
IsFormed lines (Ok forms) = Forms lines (rows_of forms)
IsFormed lines (Err (stop.Fault f)) = FirstFault lines f
IsFormed lines (Err (stop.Memory error)) = Unit {0}

-- the state of the bytes
abbrev pub IsRead : List ℕ → Result SourceState Stop → Type 0
IsRead bytes (Ok state) = Prepares bytes (state_of state)
IsRead bytes (Err (stop.Fault f)) = Prepares bytes (faulty f)
IsRead bytes (Err (stop.Memory error)) = Unit {0}

-- the globals of a module that is published, or why it isn't
abbrev pub IsDecided : Decisions → Text → ℕ → Statements → Result (List ModuleGlobal) Stop → Type 0
IsDecided known name number body (Ok globals) = IsRight known name number body (Published globals)
IsDecided known name number body (Err (stop.Fault f)) = IsRight known name number body (Refused f)
IsDecided known name number body (Err (stop.Memory error)) = Unit {0}

-- the names with that of a binding, where it is bound to a module
abbrev pub with_module : List Text → OuterBinding → List Text
with_module names b = if is_module b.kind then with_name names b.name else names
