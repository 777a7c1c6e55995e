-- By which rules a module is checked: it is static where its top part has `import __static__`, in that spelling alone.
use Rattle.std.specs.Prelude.{Bool, false, ◌&&◌, if◌then◌else◌, List, [], ◌∷◌, codes, is_none}
use Rattle.std.specs.List.{list_any}
use Rattle.std.specs.Str.{bytes_eq}
use Rattle.py_tree.specs.Syntax as x
use Rattle.py_tree.specs.Syntax.{Kind, Statement, Statements}
use Rattle.py_tree.specs.TopPart.{top_imports}
use Rattle.py_tree.specs.declared.statement.Import.{Import}
use Rattle.symbols.specs.declared.resolved.ModuleKind.{ModuleKind}
use Rattle.symbols.specs.declared.resolved.ModuleKind.TheVariants as kind

abbrev pub is_static_marker : List Import → Bool
is_static_marker (i ∷ []) = is_none i.alias && bytes_eq i.name (codes "__static__")
is_static_marker names = false

abbrev pub names_static : Kind → Bool
names_static (x.Imports is) = is_static_marker is
names_static other = false

abbrev pub imports_static : Statement → Bool
imports_static (x.On line k) = names_static k

abbrev pub is_static : Statements → Bool
is_static body = list_any imports_static (top_imports body)

abbrev pub module_kind : Statements → ModuleKind
module_kind body = if is_static body then kind.Static else kind.Strict
