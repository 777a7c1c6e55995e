-- Calls of functions, classes and bound methods. What the body of a function does is asked of an oracle.
use Rattle.std.specs.Prelude.{ℕ, suc, pos, nat_lt, Bool, false, not, ◌&&◌, if◌then◌else◌, List, [], ◌∷◌, map, length, drop, slice_get, slice_set, codes, Option, Some, None}
use Rattle.std.specs.Str.{bytes_eq}
use Rattle.py_tree.specs.Syntax as x
use Rattle.py_tree.specs.Syntax.{Text, Function, Param}
use Rattle.py_values.specs.declared.class_id.ClassId.{ClassId}
use Rattle.py_values.specs.declared.class_id.ClassId.TheVariants as id
use Rattle.py_values.specs.declared.exception.ExcKind.TheVariants as kind
use Rattle.gradual_types.specs.declared.facts.Parameter.{Parameter}
use Rattle.gradual_types.specs.declared.facts.Signature.{Signature}
use Rattle.gradual_types.specs.declared.facts.Slot.{Slot}
use Rattle.gradual_types.specs.declared.py_type.PyType.{PyType}
use Rattle.gradual_types.specs.declared.py_type.PyType.TheVariants as type
use Rattle.gradual_types.specs.Values as v
use Rattle.gradual_types.specs.Values.{Value}
use Rattle.gradual_types.specs.States.{State, Default, default_of}
use Rattle.py_meaning.specs.Acts.{Act, ◌>>=◌, ◌>>◌, give, pay, tick, choose, done}
use Rattle.py_meaning.specs.Modules.{World, Setting, KnownFunction, function_of, is_own, image_at, image_defaults}
use Rattle.py_meaning.specs.Classes.{Found, slots_of, line_of, first_method, method_of, is_below, is_exception}
use Rattle.py_meaning.specs.Looks as seen
use Rattle.py_meaning.specs.Looks.{Seen, look, raise, type_error, or_raise, make, write, may_write, see_object}
use Rattle.py_meaning.specs.Boundaries.{pass}
use Rattle.py_meaning.specs.Names.{read_name}
use Rattle.py_meaning.specs.Arguments.{Argument, Given, bound, has_keyword, positional, with_receiver}

-- what the body of a function does, by the numbers of its module and of itself, with these values of its parameters
abbrev pub Oracle : Type 0
Oracle = ℕ → ℕ → List Value → Act Value

-- ---- functions

-- the default values of the functions of a module
abbrev pub defaults_of : World → ℕ → State → List Default
defaults_of w m s = if is_own w m then s.defaults else image_defaults (image_at w m)

abbrev pub type_at : List Parameter → ℕ → PyType
type_at params i = type_in (slice_get params i) where
  type_in : Option Parameter → PyType
  type_in None = type.Dynamic
  type_in (Some p) = p.kind

abbrev pub default_value : Setting → ℕ → ℕ → ℕ → Act Value
default_value c m n i = λ s. or_raise c.world kind.TypeError (default_of n i (defaults_of c.world m s)) s

-- each argument passes to its parameter, in the order of the parameters; a default passed at its def
abbrev pub pass_given : Setting → ℕ → ℕ → Signature → ℕ → Given → Act (List Value)
pass_given c m n signature i [] = give []
pass_given c m n signature i (Some a ∷ given) = do
  value ← pass c a.origin (type_at signature.params i) a.value
  values ← pass_given c m n signature (suc i) given
  give (value ∷ values)
pass_given c m n signature i (None ∷ given) = do
  value ← default_value c m n i
  values ← pass_given c m n signature (suc i) given
  give (value ∷ values)

abbrev pub params_of : Function → List Param
params_of (x.Defined name params result body) = params

-- 256 frames are the most
abbrev pub in_frame : World → Act Value → Act Value
in_frame w body = λ s. choose (nat_lt s.depth 256) body (raise w kind.RecursionError) s

abbrev pub begun : Setting → Oracle → ℕ → ℕ → Signature → Option Given → Act Value
begun c call m n signature None = type_error c.world
begun c call m n signature (Some given) = pass_given c m n signature 0 given >>= λ values. in_frame c.world (call m n values)

abbrev pub entered : Setting → Oracle → ℕ → ℕ → List Argument → Option KnownFunction → Act Value
entered c call m n args None = type_error c.world
entered c call m n args (Some f) = begun c call m n f.signature (bound (params_of f.function) args)

-- the arguments bind, then pass, then there is a frame, then the body is run
abbrev pub enter : Setting → Oracle → ℕ → ℕ → List Argument → Act Value
enter c call m n args = entered c call m n args (function_of c.world m n)

abbrev pub enter_method : Setting → Oracle → ℕ × ℕ → Value → List Argument → Act Value
enter_method c call f receiver args = enter c call f.0 f.1 (with_receiver receiver args)

-- ---- classes

-- a slot opens unset; one of a primitive type at 0 or False
abbrev pub opening : PyType → Option Value
opening type.Int64 = Some (v.Prim64 (pos 0))
opening type.CBool = Some (v.PrimBool false)
opening other = None

abbrev pub openings : List Slot → List (Option Value)
openings slots = map (λ slot. opening slot.kind) slots

-- a primitive as an int or a bool
abbrev pub boxed : Value → Value
boxed (v.Prim64 n) = v.Int n
boxed (v.PrimBool b) = v.Truth b
boxed other = other

abbrev pub args_value : List Argument → Value
args_value args = v.Tuple (v.values (map boxed (positional args)))

-- the slots of a new instance: an exception has its positional arguments first
abbrev pub new_slots : World → ClassId → List Argument → List (Option Value)
new_slots w class args = if is_exception w class then Some (args_value args) ∷ drop 1 (openings (slots_of w class)) else openings (slots_of w class)

abbrev pub unless_none : World → Seen → Act (Unit {0})
unless_none w seen.Nil = done
unless_none w other = type_error w

abbrev pub takes_no_argument : World → List Argument → Act (Unit {0})
takes_no_argument w [] = done
takes_no_argument w args = type_error w

-- a class without `__init__` takes no arguments, but an exception class takes positional ones; an `__init__` gives None
abbrev pub initialized : Setting → Oracle → Value → ClassId → List Argument → Found → Act (Unit {0})
initialized c call object class args (Some f) = enter_method c call f object args >>= λ answer. look c.world answer >>= unless_none c.world
initialized c call object class args None = choose (is_exception c.world class && not (has_keyword args)) done (takes_no_argument c.world args)

-- a call of a class, behind its fuel of 1: the instance is made before its arguments bind
abbrev pub construct : Setting → Oracle → ClassId → List Argument → Act Value
construct c call class args = do
  pay (length (slots_of c.world class))
  object ← make c.world (v.Instance class (new_slots c.world class args))
  initialized c call object class args (method_of c.world class (codes "__init__"))
  give object

-- ---- `super().NAME(..)`

-- the class in whose body the code is written
abbrev pub own_class : Setting → Option ClassId
own_class c = numbered c.scope.class where
  numbered : Option ℕ → Option ClassId
  numbered None = None
  numbered (Some n) = Some (id.User c.scope.«module» n)

abbrev pub is_instance : World → ClassId → Seen → Bool
is_instance w above (seen.Instance h n class slots) = is_below w class above
is_instance w above other = false

-- `__init__` needs no method
abbrev pub found_or_init : World → Text → Found → Act Found
found_or_init w name (Some f) = give (Some f)
found_or_init w name None = choose (bytes_eq name (codes "__init__")) (give None) (raise w kind.AttributeError)

abbrev pub put_args : World → Value → List Argument → Seen → Act Value
put_args w object args (seen.Instance h n class slots) = do
  may_write w h
  choose (has_keyword args) (type_error w) done
  write w h n (v.Instance class (slice_set slots 0 (Some (args_value args))))
  give v.Nil
put_args w object args other = type_error w

-- where no method is reached: an exception class sets the args again, and else there is nothing to take an argument
abbrev pub unreached : World → ClassId → Value → List Argument → Act Value
unreached w class object args = choose (is_exception w class) (look w object >>= put_args w object args) (takes_no_argument w args >> give v.Nil)

abbrev pub reached : Setting → Oracle → ClassId → Value → List Argument → Found → Act Value
reached c call class object args (Some f) = enter_method c call f object args
reached c call class object args None = unreached c.world class object args

-- `self` is an instance of the class in which this is written; the method is looked for from the base of that class on
abbrev pub super_of : Setting → Oracle → Text → Act (List Argument) → ClassId → Act Value
super_of c call name arguments class = do
  self ← read_name c (codes "self")
  object ← look c.world self
  choose (is_instance c.world class object) done (type_error c.world)
  found ← found_or_init c.world name (first_method c.world name (drop 1 (line_of c.world class)))
  args ← arguments
  tick
  reached c call class self args found

abbrev pub super_call : Setting → Oracle → Text → Act (List Argument) → Act Value
super_call c call name arguments = in_class (own_class c) where
  in_class : Option ClassId → Act Value
  in_class None = type_error c.world
  in_class (Some class) = super_of c call name arguments class
