-- Values that operators see whole, and the rows that a table has of them.
use Rattle.std.specs.Prelude.{ℕ, Bool, true, false, not, [], ◌∷◌, Option, Some, None, Result, Ok, Err, ℤ, pos}
use Rattle.std.specs.Ordering.{int_eq}
use Rattle.py_tree.specs.Syntax.{Text}
use Rattle.py_values.specs.declared.exception.ExcKind.{ExcKind}
use Rattle.py_values.specs.declared.exception.ExcKind.TheVariants.{TypeError}

pub data Operand : Type 0 where
  Nil : Operand  -- None
  Truth : Bool → Operand  -- True and False, which count as 1 and 0
  Int : ℤ → Operand
  Points : Text → Operand  -- a text
  Prim64 : ℤ → Operand  -- an int64
  PrimBool : Bool → Operand  -- a cbool
  Opaque : Operand  -- a value of another kind: what it holds, and whether it is a certain one, is told before the table is asked
  Host : Operand  -- a value that isn't known yet

pub data Answer : Type 0 where
  Gives : Operand → Answer
  Raises : ExcKind → Answer
  Looks : Answer  -- it would have to look at a host value

pub record Row : Type 0 where
  pub cost : ℕ  -- in fuel
  pub answer : Answer

abbrev pub at_cost : ℕ → Operand → Row
at_cost cost operand = record { cost = cost; answer = Gives operand }

abbrev pub free : Answer → Row
free answer = record { cost = 0; answer = answer }

abbrev pub type_error : Row
type_error = free (Raises TypeError)

abbrev pub answer_of : (ℤ → Operand) → Result ℤ ExcKind → Answer
answer_of make (Ok n) = Gives (make n)
answer_of make (Err kind) = Raises kind

-- the number that an int or a bool is
abbrev pub number_of : Operand → Option ℤ
number_of (Int n) = Some n
number_of (Truth true) = Some (pos 1)
number_of (Truth false) = Some (pos 0)
number_of operand = None

abbrev pub of_number : (ℤ → Answer) → Option ℤ → Row
of_number answer (Some n) = free (answer n)
of_number answer None = type_error

abbrev pub is_empty : Text → Bool
is_empty [] = true
is_empty (point ∷ text) = false

-- false are None, False, 0 and the empty text
abbrev pub is_true : Operand → Bool
is_true Nil = false
is_true (Truth b) = b
is_true (Int n) = not (int_eq n (pos 0))
is_true (Points text) = not (is_empty text)
is_true (Prim64 n) = not (int_eq n (pos 0))
is_true (PrimBool b) = b
is_true Opaque = true
is_true Host = false  -- never asked

abbrev pub is_host : Operand → Bool
is_host Host = true
is_host operand = false
