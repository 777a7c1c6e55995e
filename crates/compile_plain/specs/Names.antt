-- What code is compiled with: the names of the scope in which it is written, by their numbers.
use Rattle.std.specs.Prelude.{ℕ, List, codes, if◌then◌else◌, Option, Some, None}
use Rattle.std.specs.List.{position}
use Rattle.std.specs.Str.{bytes_eq}
use Rattle.py_tree.specs.Syntax as x
use Rattle.py_tree.specs.Syntax.{Text, Expression, Statements}
use Rattle.py_values.specs.Builtins.{builtins, named_among}
use Rattle.py_values.specs.declared.builtin.Builtin.{Builtin}
use Rattle.py_values.specs.declared.exception.ExcKind.{ExcKind}
use Rattle.py_values.specs.declared.exception.ExcKind.TheVariants as kind
use Rattle.symbols.specs.Bindings.{globals}
use Rattle.symbols.specs.SpecialNames.{is_super, module_context}
use Rattle.symbols.specs.Words.{among, exception_named}
use Rattle.symbols.specs.declared.binding.StaticName.{StaticName}
use Rattle.py_meaning.specs.Definitions.{is_function}
use Rattle.py_meaning.specs.Expressions.{Form, Plain, Super, form_of_static}
use Rattle.py_meaning.specs.Modules.{functions}
use Rattle.bytecode.specs.Scopes.{names_of_scope}
use Rattle.bytecode.specs.declared.instr.Instr.{Instr}
use Rattle.bytecode.specs.declared.instr.Instr.TheVariants as i
use Rattle.bytecode.specs.declared.instr.Variable.{Variable}
use Rattle.bytecode.specs.declared.instr.Variable.TheVariants.{Local, Global, Named}

pub record Names : Type 0 where
  pub tree : Statements  -- of the module
  pub classes : List Text  -- the names of its classes
  pub class : Option ℕ  -- of a method: the number of its class
  pub locals : Option (List Text)  -- of a function: its names

abbrev pub place_in : List Text → Text → Option ℕ
place_in names name = position (bytes_eq name) names

-- ---- reading

abbrev pub load_builtin : Text → Option Builtin → Option ExcKind → Instr
load_builtin name (Some b) k = i.Builtin b
load_builtin name None (Some k) = i.Exception k
load_builtin name None None = if bytes_eq name (codes "__name__") then i.ModuleName else i.Fail kind.NameError

abbrev pub load_global : Text → Option ℕ → Instr
load_global name (Some n) = i.Load (Global n)
load_global name None = load_builtin name (named_among builtins name) (exception_named name)

abbrev pub load_local : Names → Text → Option ℕ → Instr
load_local names name (Some n) = i.Load (Local n)
load_local names name None = load_global name (place_in (globals names.tree) name)

-- a local of the function, else a global of the module, else a builtin
abbrev pub load : Names → Text → Instr
load names name = load_local names name (place_in (names_of_scope names.locals) name)

-- ---- binding

abbrev pub numbered : (ℕ → Variable) → Text → Option ℕ → Variable
numbered variable name None = Named name
numbered variable name (Some n) = variable n

abbrev pub variable_in : Option (List Text) → Statements → Text → Variable
variable_in None tree name = numbered Global name (place_in (globals tree) name)
variable_in (Some names) tree name = numbered Local name (place_in names name)

abbrev pub variable_of : Names → Text → Variable
variable_of names name = variable_in names.locals names.tree name

abbrev pub maybe_variable : Names → Option Text → Option Variable
maybe_variable names None = None
maybe_variable names (Some name) = Some (variable_of names name)

-- ---- what is written

-- a statement of the module's own body has a line
abbrev pub line_in : Option (List Text) → ℕ → Option ℕ
line_in None line = Some line
line_in (Some names) line = None

abbrev pub static_in : Names → Text → Option StaticName
static_in names name = if among name (names_of_scope names.locals) then None else (module_context names.tree).statics name

-- which call it is
abbrev pub form_in : Names → Expression → Form
form_in names (x.Attr e name) = if is_super e then Super name else Plain
form_in names (x.Name name) = form_of_static (static_in names name)
form_in names e = Plain

-- ---- functions and classes

-- the number of the function of that name, in that class or in none
abbrev pub function_place : Names → Option ℕ → Text → Option ℕ
function_place names class name = position (is_function class name) (functions names.tree)

abbrev pub class_place : Names → Text → Option ℕ
class_place names name = place_in names.classes name
