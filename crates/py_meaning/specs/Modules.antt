-- Modules as an evaluation knows them, and what it doesn't change: the rules, the modules, and where the code is written that is run.
use Rattle.std.specs.Prelude.{ℕ, suc, ◌==◌, Bool, false, List, [], ◌∷◌, ◌++◌, if◌then◌else◌, Option, Some, None, slice_get}
use Rattle.std.specs.List.{flat_map}
use Rattle.py_tree.specs.Syntax as x
use Rattle.py_tree.specs.Syntax.{Text, Kind, Statement, Statements, Function, ClassDef}
use Rattle.py_tree.specs.Order.{of_scope}
use Rattle.py_values.specs.declared.value.Home.{Home}
use Rattle.py_values.specs.declared.value.Home.TheVariants as home
use Rattle.heap_seg.specs.Modes.{Mode}
use Rattle.gradual_types.specs.declared.facts.Facts.{Facts}
use Rattle.gradual_types.specs.declared.facts.Signature.{Signature}
use Rattle.gradual_types.specs.declared.py_type.PyType.{PyType}
use Rattle.gradual_types.specs.Values.{Value}
use Rattle.gradual_types.specs.States.{Variable, Default}
use Rattle.gradual_types.specs.Images.{ImageData}

-- what is written in a module, and what is known of it
pub record ModuleText : Type 0 where
  pub tree : Statements
  pub facts : Facts

-- a module whose body has run
pub record Loaded : Type 0 where
  pub tree : Statements
  pub image : ImageData

pub record World : Type 0 where
  pub mode : Mode  -- the rules
  pub home : Home  -- of the objects that are made
  pub own : ModuleText  -- the module whose body is run, where the home is a module's
  pub images : List (Option Loaded)  -- the other modules, by their numbers
  pub hosts : List Value  -- what the host slots of the own module hold, by their numbers

-- where the code is written that is run
pub record Scope : Type 0 where
  pub «module» : ℕ
  pub class : Option ℕ  -- of a method: the number of its class
  pub locals : Option (List Text)  -- of a function: its names
  pub result : PyType

pub record Setting : Type 0 where
  pub world : World
  pub scope : Scope

-- ---- the modules

-- that it is the module whose body is run
abbrev pub is_own : World → ℕ → Bool
is_own w m = is_of w.home where
  is_of : Home → Bool
  is_of (home.Module n) = m == n
  is_of other = false

abbrev pub image_at : World → ℕ → Option Loaded
image_at w m = loaded (slice_get w.images m) where
  loaded : Option (Option Loaded) → Option Loaded
  loaded (Some image) = image
  loaded None = None

abbrev pub text_of_image : Option Loaded → Option ModuleText
text_of_image None = None
text_of_image (Some l) = Some (record { tree = l.tree; facts = l.image.facts })

-- the module of that number, where it is the own one or has an image
abbrev pub text_of : World → ℕ → Option ModuleText
text_of w m = if is_own w m then Some w.own else text_of_image (image_at w m)

abbrev pub image_globals : Option Loaded → List Variable
image_globals None = []
image_globals (Some l) = l.image.globals

abbrev pub image_defaults : Option Loaded → List Default
image_defaults None = []
image_defaults (Some l) = l.image.defaults

abbrev pub module_name : World → ℕ → Text
module_name w m = name_in (text_of w m) where
  name_in : Option ModuleText → Text
  name_in None = []
  name_in (Some t) = t.facts.name

-- ---- functions

-- a function of a module, with the number of the class in whose body it stands
pub record FunctionIn : Type 0 where
  pub function : Function
  pub class : Option ℕ

abbrev pub method_in : ℕ → Statement → List FunctionIn
method_in n (x.On line (x.Def f)) = record { function = f; class = Some n } ∷ []
method_in n other = []

abbrev pub methods_in : ℕ → ClassDef → List FunctionIn
methods_in n (x.Classed name base body) = flat_map (method_in n) (of_scope body)

-- of these statements, where so many classes stand before them
abbrev pub functions_from : ℕ → List Statement → List FunctionIn
functions_from n [] = []
functions_from n (x.On line (x.Def f) ∷ rest) = record { function = f; class = None } ∷ functions_from n rest
functions_from n (x.On line (x.Class c) ∷ rest) = methods_in n c ++ functions_from (suc n) rest
functions_from n (other ∷ rest) = functions_from n rest

-- the functions of a module by their numbers: in the order of the text its defs, and where a class stands the class's methods
abbrev pub functions : Statements → List FunctionIn
functions body = functions_from 0 (of_scope body)

-- a function with what it takes and gives
pub record KnownFunction : Type 0 where
  pub function : Function
  pub class : Option ℕ
  pub signature : Signature

abbrev pub known_function : Option FunctionIn → Option Signature → Option KnownFunction
known_function (Some f) (Some signature) = Some (record { function = f.function; class = f.class; signature = signature })
known_function f signature = None

abbrev pub function_in : Option ModuleText → ℕ → Option KnownFunction
function_in None n = None
function_in (Some t) n = known_function (slice_get (functions t.tree) n) (slice_get t.facts.signatures n)

-- of the module of that number, the function of that number
abbrev pub function_of : World → ℕ → ℕ → Option KnownFunction
function_of w m n = function_in (text_of w m) n

abbrev pub written_name : Function → Text
written_name (x.Defined name params result body) = name

abbrev pub function_name : World → ℕ → ℕ → Text
function_name w m n = name_in (function_of w m n) where
  name_in : Option KnownFunction → Text
  name_in None = []
  name_in (Some f) = written_name f.function
