-- Values that were looked at, as operators take them: truth, numbers, places, and the rows of the operator table.
use Rattle.std.specs.Prelude.{ℕ, zero, suc, ℤ, pos, negsuc, ◌+ℤ◌, ◌-ℤ◌, ◌*ℤ◌, ◌++◌, nat_lt, Bool, not, List, length, Option, Some, None, slice_get}
use Rattle.py_tree.specs.declared.operator.BinaryOp.{BinaryOp}
use Rattle.py_tree.specs.declared.operator.BinaryOp.TheVariants.{Add}
use Rattle.py_values.specs.declared.exception.ExcKind.TheVariants as kind
use Rattle.atom_ops.specs.Operands as o
use Rattle.atom_ops.specs.Operands.{Operand}
use Rattle.atom_ops.specs.Operators.{Operation, Binary, row_of_known, place_in}
use Rattle.atom_ops.specs.Floored.{quotient}
use Rattle.gradual_types.specs.Values as v
use Rattle.gradual_types.specs.Values.{Value}
use Rattle.py_meaning.specs.Acts.{Act, ◌>>=◌, ◌>>◌, give, pay}
use Rattle.py_meaning.specs.Modules.{World}
use Rattle.py_meaning.specs.Looks as seen
use Rattle.py_meaning.specs.Looks.{Seen, look, make, raise, type_error, or_raise}

-- ---- the operator table

-- what has no row of its own there is opaque
abbrev pub operand : Seen → Operand
operand seen.Nil = o.Nil
operand (seen.Truth b) = o.Truth b
operand (seen.Int n) = o.Int n
operand (seen.Prim64 n) = o.Prim64 n
operand (seen.PrimBool b) = o.PrimBool b
operand (seen.Points text) = o.Points text
operand other = o.Opaque

abbrev pub value_of_operand : Operand → Value
value_of_operand o.Nil = v.Nil
value_of_operand (o.Truth b) = v.Truth b
value_of_operand (o.Int n) = v.Int n
value_of_operand (o.Points text) = v.Points text
value_of_operand (o.Prim64 n) = v.Prim64 n
value_of_operand (o.PrimBool b) = v.PrimBool b
value_of_operand other = v.Nil  -- no row gives it

abbrev pub answered : World → o.Answer → Act Value
answered w (o.Gives a) = give (value_of_operand a)
answered w (o.Raises k) = raise w k
answered w o.Looks = type_error w  -- no row gives it: what was looked at is no host value

abbrev pub by_table : World → Operation → Act Value
by_table w operation = pay (row_of_known operation).cost >> answered w (row_of_known operation).answer

-- the int that an int or a bool is
abbrev pub number : Seen → Option ℤ
number a = o.number_of (operand a)

-- ---- ranges

abbrev pub natural : ℤ → ℕ
natural (pos n) = n
natural (negsuc n) = 0

-- how many numbers a range has: those from its start on that its stop isn't before
abbrev pub range_count : ℤ → ℤ → ℤ → ℕ
range_count start stop (pos zero) = 0
range_count start stop (pos (suc s)) = natural (quotient (stop -ℤ start +ℤ pos s) (pos (suc s)))
range_count start stop (negsuc s) = natural (quotient (start -ℤ stop +ℤ pos s) (pos (suc s)))

abbrev pub range_item : ℤ → ℤ → ℕ → ℤ
range_item start step i = start +ℤ pos i *ℤ step

-- ---- truth

abbrev pub is_some_item : {A : Type 0} → List A → Bool
is_some_item xs = nat_lt 0 (length xs)

-- false are None, False, 0, and what is empty
abbrev pub is_true : Seen → Bool
is_true (seen.Tuple vs) = is_some_item vs
is_true (seen.Listed h n vs) = is_some_item vs
is_true (seen.Mapped h n es) = is_some_item es
is_true (seen.Range start stop step) = nat_lt 0 (range_count start stop step)
is_true other = o.is_true (operand other)

abbrev pub truth : World → Value → Act Bool
truth w x = look w x >>= λ a. give (is_true a)

abbrev pub opposite_of : Seen → Value
opposite_of (seen.PrimBool b) = v.PrimBool (not b)
opposite_of a = v.Truth (not (is_true a))

-- `not a`
abbrev pub opposite : World → Value → Act Value
opposite w x = look w x >>= λ a. give (opposite_of a)

-- ---- `a op b`

abbrev pub joined : World → List Value → List Value → (List Value → Act Value) → Act Value
joined w vs us made = pay (length (vs ++ us)) >> made (vs ++ us)

abbrev pub combined : World → BinaryOp → Seen → Seen → Act Value
combined w Add (seen.Tuple vs) (seen.Tuple us) = joined w vs us (λ all. give (v.Tuple (v.values all)))
combined w Add (seen.Listed h n vs) (seen.Listed i m us) = joined w vs us (λ all. make w (v.Listed all))
combined w op a b = by_table w (Binary op (operand a) (operand b))

abbrev pub binary : World → BinaryOp → Value → Value → Act Value
binary w op x y = do
  a ← look w x
  b ← look w y
  combined w op a b

-- ---- places

-- of so many things, what is done at the place that an index names: from 0, and from the end where it is negative
abbrev pub at_number : {A : Type 0} → World → ℕ → (ℕ → Act A) → Option ℤ → Act A
at_number w count act None = type_error w
at_number w count act (Some i) = or_raise w kind.IndexError (place_in count i) >>= act

abbrev pub at_place : {A : Type 0} → World → ℕ → Seen → (ℕ → Act A) → Act A
at_place w count i act = at_number w count act (number i)

abbrev pub item_at : World → List Value → ℕ → Act Value
item_at w vs n = or_raise w kind.IndexError (slice_get vs n)
