-- Calls that code asks for, and what answers them.
use Rattle.std.specs.Prelude.{ℕ, zero, suc, drop, List, [], ◌∷◌, Option, Some, None}
use Rattle.py_tree.specs.Syntax.{Text}
use Rattle.py_values.specs.declared.class_id.ClassId.{ClassId}
use Rattle.gradual_types.specs.declared.py_type.PyType.TheVariants.{Dynamic}
use Rattle.gradual_types.specs.Values.{Value}
use Rattle.py_meaning.specs.Acts.{Act, ◌>>=◌, ◌>>◌, give, tick, choose, done}
use Rattle.py_meaning.specs.Modules.{World, Setting}
use Rattle.py_meaning.specs.Classes.{Found, first_method, line_of, is_exception}
use Rattle.py_meaning.specs.Looks as seen
use Rattle.py_meaning.specs.Looks.{Seen, look, type_error}
use Rattle.py_meaning.specs.Boundaries.{From}
use Rattle.py_meaning.specs.Arguments.{Argument}
use Rattle.py_meaning.specs.Calls.{Oracle, construct, is_instance, found_or_init, reached}
use Rattle.py_meaning.specs.Expressions.{called}

pub data Calling : Type 0 where
  Called : Seen → List Argument → Calling  -- of what was looked at
  Made : ClassId → Calling  -- of an exception class that is raised
  Reached : ClassId → Value → List Argument → Found → Calling  -- of a method of a base, on that receiver
  Answered : Value → Calling  -- there is nothing to call

abbrev pub calling : Setting → Oracle → Calling → Act Value
calling c call (Called a args) = called c call args a
calling c call (Made class) = construct c call class []
calling c call (Reached class receiver args found) = reached c call class receiver args found
calling c call (Answered value) = give value

-- ---- arguments

abbrev pub argument : Option Text → Value → Argument
argument name value = record { name = name; value = value; origin = From Dynamic }

abbrev pub named : List Text → List Value → List Argument
named (name ∷ names) (value ∷ values) = argument (Some name) value ∷ named names values
named names values = []

-- so many without a name, and then those of these names
abbrev pub arguments : ℕ → List Text → List Value → List Argument
arguments zero names values = named names values
arguments (suc n) names [] = []
arguments (suc n) names (value ∷ values) = argument None value ∷ arguments n names values

-- ---- what is asked for

-- a call behind its fuel of 1
abbrev pub ask_call : World → Value → List Argument → Act Calling
ask_call w callee args = do
  tick
  a ← look w callee
  give (Called a args)

-- the exception that a `raise` of this value raises
abbrev pub ask_exception : World → Value → Seen → Act Calling
ask_exception w e (seen.Class class) = choose (is_exception w class) (tick >> give (Made class)) (type_error w)
ask_exception w e (seen.Instance h n class slots) = choose (is_exception w class) (give (Answered e)) (type_error w)
ask_exception w e other = type_error w

-- the method of that name of the nearest base
abbrev pub base_method : World → ClassId → Text → Found
base_method w class name = first_method w name (drop 1 (line_of w class))

-- the value is an instance of the code's class, and the method is there or isn't needed
abbrev pub is_receiver : World → Text → ClassId → Value → Act (Unit {0})
is_receiver w name class value = do
  object ← look w value
  choose (is_instance w class object) done (type_error w)
  found_or_init w name (base_method w class name)
  done

abbrev pub ask_base : World → ClassId → Text → Value → List Argument → Act Calling
ask_base w class name receiver args = do
  tick
  give (Reached class receiver args (base_method w class name))
