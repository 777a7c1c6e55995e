-- Variables by their numbers.
use Rattle.std.specs.Prelude.{ℕ, List, [], slice_get, Option, Some, None}
use Rattle.py_tree.specs.Syntax.{Text}
use Rattle.symbols.specs.Bindings.{globals}
use Rattle.gradual_types.specs.Values.{Value}
use Rattle.gradual_types.specs.States.{State, with_value}
use Rattle.py_meaning.specs.Acts.{Act, Gives}
use Rattle.py_meaning.specs.Modules.{Setting, ModuleText, text_of}
use Rattle.py_meaning.specs.Names.{read_local, read_global, read_name}
use Rattle.bytecode.specs.declared.instr.Variable.{Variable}
use Rattle.bytecode.specs.declared.instr.Variable.TheVariants.{Local, Global, Named}

-- the empty text where there is none
abbrev pub name_at : List Text → ℕ → Text
name_at names n = text_or_none (slice_get names n) where
  text_or_none : Option Text → Text
  text_or_none None = []
  text_or_none (Some name) = name

abbrev pub names_of_scope : Option (List Text) → List Text
names_of_scope None = []
names_of_scope (Some names) = names

abbrev pub local_name : Setting → ℕ → Text
local_name c n = name_at (names_of_scope c.scope.locals) n

abbrev pub global_names : Option ModuleText → List Text
global_names None = []
global_names (Some t) = globals t.tree

abbrev pub global_name : Setting → ℕ → Text
global_name c n = name_at (global_names (text_of c.world c.scope.«module»)) n

abbrev pub load : Setting → Variable → Act Value
load c (Local n) = read_local c (local_name c n)
load c (Global n) = read_global c (global_name c n)
load c (Named name) = read_name c name

abbrev pub with_local : Text → Option Value → State → State
with_local name value s = record s { locals = with_value name value s.locals }

abbrev pub with_global : Text → Option Value → State → State
with_global name value s = record s { globals = with_value name value s.globals }

-- bound in the scope
abbrev pub with_name : Option (List Text) → Text → Option Value → State → State
with_name None name value s = with_global name value s
with_name (Some names) name value s = with_local name value s

-- bound to a value, or unbound
abbrev pub with_variable : Setting → Variable → Option Value → State → State
with_variable c (Local n) value s = with_local (local_name c n) value s
with_variable c (Global n) value s = with_global (global_name c n) value s
with_variable c (Named name) value s = with_name c.scope.locals name value s

abbrev pub set : Setting → Variable → Option Value → Act (Unit {0})
set c x value s = Gives (with_variable c x value s) tt
