-- What is kept of a module whose body has run.
use Rattle.std.specs.Prelude.{ℤ, Bool, List}
use Rattle.py_tree.specs.Syntax.{Text}
use Rattle.gradual_types.specs.declared.facts.Facts.{Facts}
use Rattle.gradual_types.specs.Values as v
use Rattle.gradual_types.specs.Values.{Value, Content}
use Rattle.gradual_types.specs.States.{Variable, Default}

-- the data of an image
pub record ImageData : Type 0 where
  pub facts : Facts
  pub globals : List Variable
  pub objects : List Content
  pub defaults : List Default

-- a value that a host gives to a name
pub data Atom : Type 0 where
  Nil : Atom
  Truth : Bool → Atom
  Int : ℤ → Atom
  Points : Text → Atom

abbrev pub atom_value : Atom → Value
atom_value Nil = v.Nil
atom_value (Truth b) = v.Truth b
atom_value (Int n) = v.Int n
atom_value (Points text) = v.Points text
