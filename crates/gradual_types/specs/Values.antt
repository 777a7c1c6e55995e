-- The values of programs. A list, a dictionary or an instance is an object, which is told by its place; every other value is a plain tree.
use Rattle.std.specs.Prelude.{ℕ, ℤ, Bool, List, [], ◌∷◌, Option}
use Rattle.py_tree.specs.Syntax.{Text}
use Rattle.py_values.specs.declared.builtin.Builtin.{Builtin}
use Rattle.py_values.specs.declared.class_id.ClassId.{ClassId}
use Rattle.py_values.specs.declared.value.Home.{Home}
use Rattle.key_map.specs.Entries.{Entry}

mutual
  pub data Value : Type 0 where
    Nil : Value  -- None
    Truth : Bool → Value  -- True, False
    Int : ℤ → Value
    Prim64 : ℤ → Value  -- an int64
    PrimBool : Bool → Value  -- a cbool
    Points : Text → Value  -- a text
    Tuple : Values → Value
    Range : ℤ → ℤ → ℤ → Value  -- start, stop, step
    Bound : Value → Value → Value  -- a receiver, and the function or builtin that is its method
    Object : Home → ℕ → Value  -- the object of that number, from 0, among those of its home
    Class : ClassId → Value
    Function : ℕ → ℕ → Value  -- of the module of that number, the function of that number
    Module : ℕ → Value
    BuiltIn : Builtin → Value
    Host : ℕ → ℕ → Value  -- what isn't known before the host tells it: of the module of that number, the host slot of that number

  pub data Values : Type 0 where
    end_of_values : Values
    more_values : Value → Values → Values

abbrev pub values : List Value → Values
values [] = end_of_values
values (v ∷ vs) = more_values v (values vs)

abbrev pub items : Values → List Value
items end_of_values = []
items (more_values v vs) = v ∷ items vs

-- what an object holds
pub data Content : Type 0 where
  Listed : List Value → Content
  Mapped : List (Entry Value Value) → Content  -- a dictionary
  Instance : ClassId → List (Option Value) → Content  -- its slots, each with its value where it is set
