-- No definition of the language: the names of a module and of a function in tables, and what the tables hold.
use Rattle.std.specs.Prelude.{◌≡◌, ℕ, Bool, true, false, if◌then◌else◌, List, [], ◌∷◌, map, Option, Some, None, slice_get}
use Rattle.std.specs.List.{flat_map, position}
use Rattle.std.specs.Option.{option_or}
use Rattle.py_tree.specs.Syntax as x
use Rattle.py_tree.specs.Syntax.{Text, Kind, Statement, Statements}
use Rattle.py_tree.specs.Order.{of_scope}
use Rattle.py_tree.specs.Joined.{function_of}
use Rattle.symbols.specs.Bindings.{globals, locals}
use Rattle.symbols.specs.Names.{found}
use Rattle.symbols.specs.SpecialNames.{module_context}
use Rattle.symbols.specs.declared.binding.StaticName.{StaticName}
use Rattle.symbols.specs.declared.name_map.NameMap.{NameMap}
use Rattle.py_meaning.specs.Definitions.{is_function}
use Rattle.py_meaning.specs.Modules.{FunctionIn, functions}
use Rattle.py_meaning.specs.Runs.{body_of}
use Rattle.bytecode.specs.declared.instr.Cell.{Cell}
use Rattle.bytecode.specs.declared.program.CodeBlock.{CodeBlock}
use Rattle.compile_plain.specs.Names.{Names, place_in}
use Rattle.compile_plain.specs.Statements.{body_code}
use Rattle.compile_plain.specs.declared.targets.Targets.{Targets}
use Rattle.compile_plain.specs.declared.functions.FunctionIn.{FunctionIn as Known}

-- ---- classes and functions as they are written

abbrev pub class_name : Kind → List Text
class_name (x.Class (x.Classed name base body)) = name ∷ []
class_name other = []

abbrev pub class_names_at : Statement → List Text
class_names_at (x.On line kind) = class_name kind

abbrev pub class_names : Statements → List Text
class_names body = flat_map class_names_at (of_scope body)

abbrev pub function_in : Known → FunctionIn
function_in f = record { function = function_of f.function.now; class = f.class }

-- ---- tables

-- where the first function of each name stands, in that class or in none
abbrev pub AreFunctions : Option ℕ → List FunctionIn → (Text → Option ℕ) → Type 0
AreFunctions class fs places = (name : Text) → places name ≡ position (is_function class name) fs

-- in the table of the class of that number
abbrev pub found_at : Option (NameMap ℕ) → Text → Option ℕ
found_at None name = None
found_at (Some table) name = found table name

-- in the table of that class a name has a place now, where it had none
abbrev pub kept_at : Bool → Option ℕ → Bool → ℕ → Option ℕ
kept_at false old is_name number = old
kept_at true old is_name number = option_or old (if is_name then Some number else None)

abbrev pub AreMethods : List FunctionIn → List (NameMap ℕ) → Type 0
AreMethods fs tables = (n : ℕ) → AreFunctions (Some n) fs (found_at (slice_get tables n))

abbrev pub ArePlaces : List Text → NameMap ℕ → Type 0
ArePlaces names places = (name : Text) → found places name ≡ place_in names name

pub record AreNames (tree : Statements) (global : NameMap ℕ) (static : NameMap StaticName) (class : NameMap ℕ) (function : NameMap ℕ) (methods : List (NameMap ℕ)) : Type 0 where
  pub global_places : ArePlaces (globals tree) global
  pub statics : (name : Text) → found static name ≡ (module_context tree).statics name
  pub class_places : ArePlaces (class_names tree) class
  pub defs : AreFunctions None (functions tree) (found function)
  pub in_classes : AreMethods (functions tree) methods

-- ---- code

abbrev pub own_names : Statements → Names
own_names tree = record { tree = tree; classes = class_names tree; class = None; locals = None }

abbrev pub code_in : Statements → FunctionIn → List Cell
code_in tree f = body_code (record { tree = tree; classes = class_names tree; class = f.class; locals = Some (locals f.function) }) (body_of f.function)

abbrev pub codes_of : Statements → List FunctionIn → List (List Cell)
codes_of tree fs = map (code_in tree) fs

abbrev pub blocks_of : List CodeBlock → List (List Cell)
blocks_of blocks = map (λ block. block.cells) blocks

abbrev pub targets_at : ℕ → Targets
targets_at end = record { broke = end; continued = end; in_loop = 0; in_block = 0; raised = record { place = None; clauses = 0; loops = 0 } }
