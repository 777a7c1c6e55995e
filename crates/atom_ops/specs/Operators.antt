-- The operator table: what each operator and builtin gives of values that are seen whole, and what fuel it costs.
--
-- In it are the operators but `and` and `or`, and the builtins and methods of texts that `Callee` lists, of None, bools, ints, texts, `int64`s,
-- `cbool`s and host values. Not in it is what has to see objects: lists, tuples, dictionaries, ranges, instances, classes, functions, modules,
-- which are opaque here, the builtins that make or go through them, and `print`, `min` and `max`. The fuel of a call begun isn't in a row, nor are keywords, of which
-- no builtin takes any. Static types keep a primitive from standing beside another value: these rows are never asked for.
use Rattle.std.specs.Prelude.{ℕ, min, Bool, true, false, not, ◌||◌, if◌then◌else◌, List, [], ◌∷◌, ◌++◌, length, reverse, slice_get, nat_eq, nat_le, nat_lt, ◌-◌, suc, ◌==◌, Option, Some, None, Result, ℤ, pos, negsuc, neg_ℤ, unsigned_abs, codes}
use Rattle.std.specs.Ordering.{int_cmp, is_eq, is_ne, is_lt, is_le, is_gt, is_ge}
use Rattle.std.specs.declared.cmp.Ordering.{Ordering}
use Rattle.std.specs.Fmt.{signed_decimal}
use Rattle.std.specs.List.{list_any, starts_with, ends_with}
use lib.Utf8.{scalar}
use Rattle.py_tree.specs.Syntax.{Text}
use Rattle.py_tree.specs.declared.operator.UnaryOp.{UnaryOp}
use Rattle.py_tree.specs.declared.operator.UnaryOp.TheVariants.{Minus, Plus}
use Rattle.py_tree.specs.declared.operator.BinaryOp.{BinaryOp}
use Rattle.py_tree.specs.declared.operator.BinaryOp.TheVariants.{Add}
use Rattle.py_tree.specs.declared.operator.CompareOp.{CompareOp}
use Rattle.py_tree.specs.declared.operator.CompareOp.TheVariants.{Eq, Ne, Lt, Le, Gt, Ge, In, NotIn}
use Rattle.py_tree.specs.declared.operator.Const.{Const}
use Rattle.py_tree.specs.declared.operator.Const.TheVariants as constant
use Rattle.py_values.specs.declared.exception.ExcKind.{ExcKind}
use Rattle.py_values.specs.declared.exception.ExcKind.TheVariants.{IndexError, ValueError}
use Rattle.atom_ops.specs.Arithmetic.{as_int, int_result, negated, primitive_result, wrapped}
use Rattle.atom_ops.specs.Texts.{order_of, repr_of}
use Rattle.atom_ops.specs.IntTexts.{int_of}
use Rattle.atom_ops.specs.Operands.{Operand, Nil, Truth, Int, Points, Prim64, PrimBool, Answer, Gives, Raises, Looks, Row, at_cost, free, type_error, answer_of, number_of, of_number, is_true, is_host}

pub data Callee : Type 0 where
  Object : Callee  -- object
  Len : Callee  -- len
  ToInt : Callee  -- int
  ToStr : Callee  -- str
  ToRepr : Callee  -- repr
  ToBool : Callee  -- bool
  Abs : Callee  -- abs
  Ord : Callee  -- ord
  Chr : Callee  -- chr
  StartsWith : Callee  -- startswith of a text, which is the first operand
  EndsWith : Callee  -- endswith of a text, which is the first operand

pub data Operation : Type 0 where
  Unary : UnaryOp → Operand → Operation  -- -a, +a
  Not : Operand → Operation  -- not a
  Binary : BinaryOp → Operand → Operand → Operation  -- a + b
  Compare : CompareOp → Operand → Operand → Operation  -- a < b, a in b
  Is : Bool → Operand → Const → Operation  -- a is None, a is not None (true)
  Index : Operand → Operand → Operation  -- a[b]
  Test : Operand → Operation  -- whether a is true, as `if` asks
  Call : Callee → List Operand → Operation  -- len(a)

-- ---- unary operators

abbrev pub signed : UnaryOp → Operand → Row
signed Minus (Prim64 n) = free (answer_of Prim64 (wrapped (neg_ℤ n)))
signed Plus (Prim64 n) = free (Gives (Prim64 n))
signed Minus a = of_number (λ n. answer_of Int (negated n)) (number_of a)
signed Plus a = of_number (λ n. Gives (Int n)) (number_of a)

abbrev pub opposite : Operand → Row
opposite (PrimBool b) = free (Gives (PrimBool (not b)))
opposite a = free (Gives (Truth (not (is_true a))))

-- ---- `a op b`

abbrev pub of_numbers : BinaryOp → Option ℤ → Option ℤ → Row
of_numbers op (Some a) (Some b) = free (answer_of Int (int_result op a b))
of_numbers op a b = type_error

abbrev pub binary : BinaryOp → Operand → Operand → Row
binary op (Prim64 a) (Prim64 b) = free (answer_of Prim64 (primitive_result op a b))
binary Add (Points a) (Points b) = at_cost (length (a ++ b)) (Points (a ++ b))
binary op a b = of_numbers op (number_of a) (number_of b)

-- the same of all but two texts
abbrev pub calculated : BinaryOp → Operand → Operand → Row
calculated op (Prim64 a) (Prim64 b) = free (answer_of Prim64 (primitive_result op a b))
calculated op a b = of_numbers op (number_of a) (number_of b)

-- ---- comparisons

abbrev pub holds : CompareOp → Ordering → Bool
holds Eq order = is_eq order
holds Ne order = is_ne order
holds Lt order = is_lt order
holds Le order = is_le order
holds Gt order = is_gt order
holds Ge order = is_ge order
holds In order = false
holds NotIn order = false

abbrev pub order_of_numbers : Option ℤ → Option ℤ → Option Ordering
order_of_numbers (Some a) (Some b) = Some (int_cmp a b)
order_of_numbers a b = None

-- the order of two ints, two texts or two `int64`s
abbrev pub order : Operand → Operand → Option Ordering
order (Points a) (Points b) = Some (order_of a b)
order (Prim64 a) (Prim64 b) = Some (int_cmp a b)
order a b = order_of_numbers (number_of a) (number_of b)

-- of two `int64`s a cbool, and else a bool
abbrev pub compared : Operand → Operand → Bool → Row
compared (Points a) (Points b) holds = at_cost (min (length a) (length b)) (Truth holds)
compared (Prim64 a) (Prim64 b) holds = free (Gives (PrimBool holds))
compared a b holds = free (Gives (Truth holds))

abbrev pub is_same : Option Ordering → Bool
is_same (Some order) = is_eq order
is_same None = false

-- different kinds are unequal
abbrev pub are_equal : Operand → Operand → Bool
are_equal Nil Nil = true
are_equal (PrimBool a) (PrimBool b) = if a then b else not b
are_equal a b = is_same (order a b)

abbrev pub ordered : CompareOp → Operand → Operand → Option Ordering → Row
ordered op a b (Some order) = compared a b (holds op order)
ordered op a b None = type_error

abbrev pub contains : Text → Text → Bool
contains part [] = starts_with nat_eq [] part
contains part (point ∷ rest) = starts_with nat_eq (point ∷ rest) part || contains part rest

abbrev pub within : (Bool → Bool) → Operand → Operand → Row
within answer (Points part) (Points text) = at_cost (length text) (Truth (answer (contains part text)))
within answer a b = type_error

abbrev pub comparison : CompareOp → Operand → Operand → Row
comparison Eq a b = compared a b (are_equal a b)
comparison Ne a b = compared a b (not (are_equal a b))
comparison In a b = within (λ found. found) a b
comparison NotIn a b = within not a b
comparison op a b = ordered op a b (order a b)

-- ---- `is` and subscripts

abbrev pub is_constant : Const → Operand → Bool
is_constant constant.Nil Nil = true
is_constant constant.True (Truth b) = b
is_constant constant.False (Truth b) = not b
is_constant other a = false

-- from 0, and from the end where it is negative
abbrev pub point_at : Text → ℤ → Option ℕ
point_at text (pos n) = slice_get text n
point_at text (negsuc n) = slice_get (reverse text) n

-- the same for whatever has so many items: the place from 0
abbrev pub place_in : ℕ → ℤ → Option ℕ
place_in count (pos n) = if nat_lt n count then Some n else None
place_in count (negsuc n) = if nat_lt n count then Some (count - suc n) else None

abbrev pub character_or : Option ℕ → Answer → Answer
character_or (Some point) other = Gives (Points (point ∷ []))
character_or None other = other

abbrev pub subscript : Operand → Operand → Row
subscript (Points text) i = of_number (λ n. character_or (point_at text n) (Raises IndexError)) (number_of i)
subscript a i = type_error

-- ---- builtins

abbrev pub takes : Callee → ℕ → Bool
takes Object count = false
takes ToInt count = nat_le count 1
takes ToStr count = nat_le count 1
takes ToBool count = nat_le count 1
takes StartsWith count = count == 2
takes EndsWith count = count == 2
takes callee count = count == 1

abbrev pub written : Operand → Option Text
written Nil = Some (codes "None")
written (Truth true) = Some (codes "True")
written (Truth false) = Some (codes "False")
written (Int n) = Some (signed_decimal n)
written (Points text) = Some (repr_of text)
written primitive = None

abbrev pub produced : Option Text → Row
produced (Some text) = at_cost (length text) (Points text)
produced None = type_error

-- the code of a character, which is a Unicode scalar value
abbrev pub character : ℤ → Option ℕ
character (pos n) = if scalar n then Some n else None
character (negsuc n) = None

-- the code of a text of one code point
abbrev pub code_of : Text → Option ℤ
code_of (point ∷ []) = Some (pos point)
code_of text = None

-- how far a number is from 0
abbrev pub magnitude : ℤ → Result ℤ ExcKind
magnitude n = as_int (pos (unsigned_abs n))

-- with fewer or more operands than it takes, and with other operands, none gives anything
abbrev pub called : Callee → List Operand → Row
called Len (Points text ∷ []) = free (answer_of Int (as_int (pos (length text))))
called ToInt [] = free (Gives (Int (pos 0)))
called ToInt (Points text ∷ []) = free (answer_of Int (int_of text))
called ToInt (a ∷ []) = of_number (λ n. Gives (Int n)) (number_of a)
called ToStr [] = produced (Some [])
called ToStr (Points text ∷ []) = produced (Some text)
called ToStr (a ∷ []) = produced (written a)
called ToRepr (a ∷ []) = produced (written a)
called ToBool [] = free (Gives (Truth false))
called ToBool (a ∷ []) = free (Gives (Truth (is_true a)))
called Abs (a ∷ []) = of_number (λ n. answer_of Int (magnitude n)) (number_of a)
called Ord (Points text ∷ []) = of_number (λ n. Gives (Int n)) (code_of text)
called Chr (a ∷ []) = of_number (λ n. character_or (character n) (Raises ValueError)) (number_of a)
called StartsWith (Points text ∷ Points part ∷ []) = at_cost (length part) (Truth (starts_with nat_eq text part))
called EndsWith (Points text ∷ Points part ∷ []) = at_cost (length part) (Truth (ends_with nat_eq text part))
called callee operands = type_error

-- ---- the table

-- what an operation looks at; the operands of a call are looked at where the builtin takes so many
abbrev pub examined : Operation → List Operand
examined (Unary op a) = a ∷ []
examined (Not a) = a ∷ []
examined (Binary op a b) = a ∷ b ∷ []
examined (Compare op a b) = a ∷ b ∷ []
examined (Is negated a constant) = a ∷ []
examined (Index a i) = a ∷ i ∷ []
examined (Test a) = a ∷ []
examined (Call callee operands) = if takes callee (length operands) then operands else []

abbrev pub row_of_known : Operation → Row
row_of_known (Unary op a) = signed op a
row_of_known (Not a) = opposite a
row_of_known (Binary op a b) = binary op a b
row_of_known (Compare op a b) = comparison op a b
row_of_known (Is negated a constant) = free (Gives (Truth (if negated then not (is_constant constant a) else is_constant constant a)))
row_of_known (Index a i) = subscript a i
row_of_known (Test a) = free (Gives (Truth (is_true a)))
row_of_known (Call callee operands) = called callee operands

-- a look at a host value comes before all other faults
abbrev pub row : Operation → Row
row operation = if list_any is_host (examined operation) then free Looks else row_of_known operation
