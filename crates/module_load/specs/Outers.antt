-- What the imports of a module's top part bind, from what is decided of the modules that they name.
use Rattle.std.specs.Prelude.{ℕ, if◌then◌else◌, List, [], ◌∷◌, codes, Option, Some, None, is_some}
use Rattle.std.specs.List.{flat_map}
use Rattle.std.specs.Str.{bytes_eq}
use Rattle.py_tree.specs.Syntax as x
use Rattle.py_tree.specs.Syntax.{Text, Kind, Statement, Statements}
use Rattle.py_tree.specs.TopPart.{top_imports}
use Rattle.py_tree.specs.declared.statement.Import.{Import}
use Rattle.symbols.specs.Bindings.{alias_or, is_marker_import}
use Rattle.symbols.specs.Words.{static_name}
use Rattle.symbols.specs.declared.outer.Outer.{Outer}
use Rattle.symbols.specs.declared.outer.OuterBinding.{OuterBinding}
use Rattle.symbols.specs.declared.outer.OuterKind.{OuterKind}
use Rattle.symbols.specs.declared.outer.OuterKind.TheVariants as holds
use Rattle.module_load.specs.declared.globals.ModuleGlobal.{ModuleGlobal}
use Rattle.module_load.specs.declared.verdict.Verdict.{Verdict}
use Rattle.module_load.specs.declared.verdict.Verdict.TheVariants as verdict
use Rattle.module_load.specs.Decisions.{Decisions, global_named}

abbrev pub outer_binding : Text → OuterKind → OuterBinding
outer_binding name kind = record { name = name; kind = kind }

-- ---- `import NAME as NAME, ..`

-- no class is published yet, so a module that is imported has none
abbrev pub module_kind : OuterKind
module_kind = holds.Module []

-- a marker binds nothing
abbrev pub module_bindings : Import → List OuterBinding
module_bindings i = if is_marker_import i then [] else outer_binding (alias_or i.alias i.name) module_kind ∷ []

-- ---- `from NAME import NAME as NAME, ..`

abbrev pub global_kind : Option ModuleGlobal → OuterKind
global_kind None = holds.Other
global_kind (Some g) = if g.holds_module then module_kind else holds.Other

-- what the global of that name holds in a module of which this is decided
abbrev pub member_kind : Text → Option Verdict → OuterKind
member_kind name (Some (verdict.Published globals)) = global_kind (global_named name globals)
member_kind name other = holds.Other

-- a static name isn't bound from outside
abbrev pub member_bindings : Decisions → Text → Import → List OuterBinding
member_bindings known from i = if is_some (static_name from i.name) then [] else outer_binding (alias_or i.alias i.name) (member_kind i.name (known from)) ∷ []

-- `from __future__` binds nothing
abbrev pub members_bindings : Decisions → Text → List Import → List OuterBinding
members_bindings known from is = if bytes_eq from (codes "__future__") then [] else flat_map (member_bindings known from) is

-- ---- the top part

abbrev pub kind_bindings : Decisions → Kind → List OuterBinding
kind_bindings known (x.Imports is) = flat_map module_bindings is
kind_bindings known (x.From from is) = members_bindings known from is
kind_bindings known kind = []

abbrev pub statement_bindings : Decisions → Statement → List OuterBinding
statement_bindings known (x.On line kind) = kind_bindings known kind

abbrev pub outer_bindings : Decisions → Statements → List OuterBinding
outer_bindings known body = flat_map (statement_bindings known) (top_imports body)

abbrev pub outer : Decisions → Text → ℕ → Statements → Outer
outer known name number body = record { name = name; number = number; bindings = outer_bindings known body }
