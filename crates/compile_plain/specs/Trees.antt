-- No definition of the language: what parts of the program's trees stand for, and the code of forms that have one shape.
use Rattle.std.specs.Prelude.{ℕ, Bool, true, false, if◌then◌else◌, ◌+◌, List, [], ◌∷◌, ◌++◌, Option, Some, None}
use Rattle.py_tree.specs.Syntax as x
use Rattle.py_tree.specs.Syntax.{Text, Expression, Target, Kind, Statements}
use Rattle.py_tree.specs.Joined.{expr_step, call_step, keyword_step, pair_step}
use Rattle.py_tree.specs.declared.expression.Call.{Call}
use Rattle.py_tree.specs.declared.expression.Expr.TheFolds.{fold-Call}
use Rattle.bytecode.specs.declared.instr.Cell.{Cell}
use Rattle.bytecode.specs.declared.instr.Handler.{Handler}
use Rattle.bytecode.specs.declared.instr.Instr.{Instr}
use Rattle.bytecode.specs.declared.instr.Instr.TheVariants as i
use Rattle.compile_plain.specs.Names.{Names, maybe_variable}
use Rattle.compile_plain.specs.Cells.{cell, line_code}
use Rattle.compile_plain.specs.Expressions.{shape, base_end, base_code, expr_end, exprs_end, last_end, keywords_end, expr_code, exprs_code, last_code, keywords_code}
use Rattle.compile_plain.specs.Assignments.{assign_code}
use Rattle.compile_plain.specs.Statements.{rows_end, kind_end, kind_code}
use Rattle.compile_plain.specs.declared.targets.Targets.{Targets}

abbrev pub call_of : Call → Expression
call_of = fold-Call Expression Expression x.Keyword x.Pair expr_step call_step keyword_step pair_step

-- ---- expressions, by their forms

abbrev pub gathered : Bool → ℕ → Instr
gathered true n = i.Tuple n
gathered false n = i.List n

-- the two operands of an expression
abbrev pub operands_code : Names → Handler → ℕ → Expression → List Cell
operands_code names h pc (x.Binary operator e d) = expr_code names h pc e ++ expr_code names h (expr_end names pc e) d
operands_code names h pc (x.Compare operator e d) = expr_code names h pc e ++ expr_code names h (expr_end names pc e) d
operands_code names h pc (x.Index e d) = expr_code names h pc e ++ expr_code names h (expr_end names pc e) d
operands_code names h pc other = []

abbrev pub operands_end : Names → ℕ → Expression → ℕ
operands_end names pc (x.Binary operator e d) = expr_end names (expr_end names pc e) d
operands_end names pc (x.Compare operator e d) = expr_end names (expr_end names pc e) d
operands_end names pc (x.Index e d) = expr_end names (expr_end names pc e) d
operands_end names pc other = pc

abbrev pub and_code : Names → Handler → ℕ → Expression → List Cell
and_code names h pc (x.And e d) = expr_code names h pc (x.And e d)
and_code names h pc other = []

abbrev pub and_end : Names → ℕ → Expression → ℕ
and_end names pc (x.And e d) = expr_end names pc (x.And e d)
and_end names pc other = pc

abbrev pub or_code : Names → Handler → ℕ → Expression → List Cell
or_code names h pc (x.Or e d) = expr_code names h pc (x.Or e d)
or_code names h pc other = []

abbrev pub or_end : Names → ℕ → Expression → ℕ
or_end names pc (x.Or e d) = expr_end names pc (x.Or e d)
or_end names pc other = pc

abbrev pub cond_code : Names → Handler → ℕ → Expression → List Cell
cond_code names h pc (x.Cond test then' other) = expr_code names h pc (x.Cond test then' other)
cond_code names h pc other = []

abbrev pub cond_end : Names → ℕ → Expression → ℕ
cond_end names pc (x.Cond test then' other) = expr_end names pc (x.Cond test then' other)
cond_end names pc other = pc

-- an item that is written again: its container, its index, and then the item
abbrev pub item_code : Names → Handler → ℕ → Expression → Expression → List Cell
item_code names h pc e d = expr_code names h pc e ++ (expr_code names h (expr_end names pc e) d ++ (cell h i.CopyTwo ∷ (cell h i.GetItem ∷ [])))

-- ---- calls, by their forms

abbrev pub base_call_end : Names → ℕ → Expression → ℕ
base_call_end names pc (x.Call callee args keys) = base_end names.class pc (keywords_end names (exprs_end names (pc + 1 + 1) args) keys)
base_call_end names pc other = pc

abbrev pub base_call_code : Names → Handler → ℕ → Text → Expression → List Cell
base_call_code names h pc name (x.Call callee args keys) =
    base_code names h names.class name (shape args keys) (exprs_code names h (pc + 1 + 1) args ++ keywords_code names h (exprs_end names (pc + 1 + 1) args) keys)
base_call_code names h pc name other = []

abbrev pub last_arg_end : Names → ℕ → Expression → ℕ
last_arg_end names pc (x.Call callee args keys) = last_end names pc args
last_arg_end names pc other = pc

abbrev pub last_arg_code : Names → Handler → ℕ → Expression → List Cell
last_arg_code names h pc (x.Call callee args keys) = last_code names h pc args
last_arg_code names h pc other = []

-- behind an expression, or None
abbrev pub maybe_end : Names → ℕ → Option Expression → ℕ
maybe_end names pc None = pc + 1
maybe_end names pc (Some e) = expr_end names pc e

-- ---- except clauses

abbrev pub trial_end : Names → ℕ → Option Expression → ℕ
trial_end names pc None = pc + 1
trial_end names pc (Some e) = expr_end names pc e + 1 + 1

-- what tries whether a clause of that body takes the exception, and what binds its name then
abbrev pub trial_code : Names → Handler → ℕ → Option Expression → Option Text → Statements → List Cell
trial_code names h pc None name body = cell h (i.Take (maybe_variable names name)) ∷ []
trial_code names h pc (Some e) name body =
    expr_code names h pc e ++ (cell h (i.TakesElse (rows_end names (expr_end names pc e + 1 + 1) body + 1)) ∷ (cell h (i.Take (maybe_variable names name)) ∷ []))

-- ---- statements, by their forms

abbrev pub value_code : Names → Handler → ℕ → Target → Expression → List Cell
value_code names h pc t e = expr_code names h pc e ++ assign_code names h (expr_end names pc e) t

-- what steps to the next item of a loop whose turns begin at a place, and ends it
abbrev pub step_code : Handler → Option ℕ → ℕ → List Cell
step_code h line first = line_code h line ++ (cell h (i.Next first) ∷ (cell h i.EndLoop ∷ []))

abbrev pub form_code : (Kind → Bool) → Names → Targets → ℕ → ℕ → Kind → List Cell
form_code is names k line pc kind = if is kind then kind_code names k line pc kind else []

abbrev pub form_end : (Kind → Bool) → Names → ℕ → ℕ → Kind → ℕ
form_end is names line pc kind = if is kind then kind_end names line pc kind else pc

abbrev pub is_if : Kind → Bool
is_if (x.If tested orelse) = true
is_if other = false

abbrev pub is_while : Kind → Bool
is_while (x.While test body) = true
is_while other = false

abbrev pub is_for : Kind → Bool
is_for (x.For t e body) = true
is_for other = false

abbrev pub is_try : Kind → Bool
is_try (x.Try body clauses) = true
is_try other = false
