-- What an evaluation changes.
use Rattle.std.specs.Prelude.{ℕ, Bool, List, [], ◌∷◌, Option, Some, None, if◌then◌else◌, ◌&&◌, ◌==◌}
use Rattle.std.specs.Str.{bytes_eq}
use Rattle.py_tree.specs.Syntax.{Text}
use Rattle.gradual_types.specs.Values.{Value, Content}

-- a name of a scope, with its value where it is bound
pub record Variable : Type 0 where
  pub name : Text
  pub value : Option Value

-- the default value of a parameter, by the numbers of its function and of itself
pub record Default : Type 0 where
  pub function : ℕ
  pub param : ℕ
  pub value : Value

pub record State : Type 0 where
  pub own : List Content  -- the objects that were made, in that order
  pub others : List (List Content)  -- those of the modules, by the modules' numbers
  pub locals : List Variable  -- of the function that is run
  pub globals : List Variable  -- of the module whose body is run
  pub defaults : List Default  -- of its functions
  pub output : Text
  pub fuel : ℕ
  pub depth : ℕ  -- how many frames there are
  pub line : ℕ  -- of the innermost statement of the module's own body that is under way
  pub checks : ℕ  -- how many were counted
  pub sound : Bool  -- no typed place was given a value of another type

-- ---- names

abbrev pub value_of : Text → List Variable → Option Value
value_of name [] = None
value_of name (x ∷ xs) = if bytes_eq name x.name then x.value else value_of name xs

-- with the name bound to a value, or unbound
abbrev pub with_value : Text → Option Value → List Variable → List Variable
with_value name value [] = []
with_value name value (x ∷ xs) = if bytes_eq name x.name then record x { value = value } ∷ xs else x ∷ with_value name value xs

-- ---- default values

abbrev pub is_for : ℕ → ℕ → Default → Bool
is_for function param d = d.function == function && d.param == param

abbrev pub default_of : ℕ → ℕ → List Default → Option Value
default_of function param [] = None
default_of function param (d ∷ ds) = if is_for function param d then Some d.value else default_of function param ds

-- one that is there keeps its place and takes the value; another goes to the end
abbrev pub with_default : ℕ → ℕ → Value → List Default → List Default
with_default function param value [] = record { function = function; param = param; value = value } ∷ []
with_default function param value (d ∷ ds) = if is_for function param d then record d { value = value } ∷ ds else d ∷ with_default function param value ds
