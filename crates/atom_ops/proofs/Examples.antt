-- Rows of the operator table, computed.
use Rattle.std.proofs.Common.{◌≡◌, true, false, codes, [], ◌∷◌, refl, pos, negsuc}
use Rattle.std.specs.Int.{int_wrap}
use Rattle.std.specs.Fmt.{digits}
use Rattle.py_tree.specs.declared.operator.UnaryOp.TheVariants.{Minus, Plus}
use Rattle.py_tree.specs.declared.operator.BinaryOp.TheVariants.{Add, Mul, FloorDiv, Mod}
use Rattle.py_tree.specs.declared.operator.CompareOp.TheVariants.{Eq, Ne, Lt, Ge, In, NotIn}
use Rattle.py_tree.specs.declared.operator.Const.TheVariants as constant
use Rattle.py_values.specs.declared.exception.ExcKind.TheVariants.{IndexError, OverflowError, ValueError, ZeroDivisionError}
use Rattle.atom_ops.specs.Operands.{Nil, Truth, Int, Points, Prim64, PrimBool, Host, Gives, Raises, Looks, at_cost, free, type_error}
use Rattle.atom_ops.specs.Operators.{Object, Len, ToInt, ToStr, ToRepr, ToBool, Abs, Ord, Chr, StartsWith, EndsWith, Unary, Not, Binary, Compare, Is, Index, Test, Call, row}

-- ---- unary operators

-- +True is 1
truth_as_int : row (Unary Plus (Truth true)) ≡ free (Gives (Int (pos 1)))
truth_as_int = refl

-- -9223372036854775808 has no negative among ints, and is its own among int64s
no_negative : row (Unary Minus (Int (negsuc 9223372036854775807))) ≡ free (Raises OverflowError)
no_negative = refl

own_negative : row (Unary Minus (Prim64 (negsuc 9223372036854775807))) ≡ free (Gives (Prim64 (negsuc 9223372036854775807)))
unfolding int_wrap
own_negative = refl

no_negative_text : row (Unary Minus (Points (codes "a"))) ≡ type_error
no_negative_text = refl

-- `not` of an int64 is a bool, and of a cbool a cbool
not_zero : row (Not (Prim64 (pos 0))) ≡ free (Gives (Truth true))
not_zero = refl

not_primitive : row (Not (PrimBool true)) ≡ free (Gives (PrimBool false))
not_primitive = refl

-- ---- `a op b`

-- "ab" + "c" costs 3
joined : row (Binary Add (Points (codes "ab")) (Points (codes "c"))) ≡ at_cost 3 (Points (codes "abc"))
joined = refl

truth_counts : row (Binary Add (Truth true) (Int (pos 1))) ≡ free (Gives (Int (pos 2)))
truth_counts = refl

-- -7 // 2 is -4, and 7 % -2 is -1
rounded_down : row (Binary FloorDiv (Int (negsuc 6)) (Int (pos 2))) ≡ free (Gives (Int (negsuc 3)))
rounded_down = refl

sign_of_divisor : row (Binary Mod (Int (pos 7)) (Int (negsuc 1))) ≡ free (Gives (Int (negsuc 0)))
sign_of_divisor = refl

by_zero : row (Binary Mod (Prim64 (pos 1)) (Prim64 (pos 0))) ≡ free (Raises ZeroDivisionError)
by_zero = refl

wraps : row (Binary FloorDiv (Prim64 (negsuc 9223372036854775807)) (Prim64 (negsuc 0))) ≡ free (Gives (Prim64 (negsuc 9223372036854775807)))
unfolding int_wrap
wraps = refl

no_repetition : row (Binary Mul (Points (codes "a")) (Int (pos 2))) ≡ type_error
no_repetition = refl

-- a host value is looked at before any other fault is found
looked_at : row (Binary Add Nil Host) ≡ free Looks
looked_at = refl

-- ---- comparisons

-- "a" < "ab" costs 1
shorter_first : row (Compare Lt (Points (codes "a")) (Points (codes "ab"))) ≡ at_cost 1 (Truth true)
shorter_first = refl

primitives_in_order : row (Compare Ge (Prim64 (pos 1)) (Prim64 (pos 2))) ≡ free (Gives (PrimBool false))
primitives_in_order = refl

no_order : row (Compare Lt Nil Nil) ≡ type_error
no_order = refl

one_is_true : row (Compare Eq (Int (pos 1)) (Truth true)) ≡ free (Gives (Truth true))
one_is_true = refl

different_kinds : row (Compare Ne (Points (codes "1")) (Int (pos 1))) ≡ free (Gives (Truth true))
different_kinds = refl

-- `==` of two cbools is a bool
equal_primitives : row (Compare Eq (PrimBool false) (PrimBool false)) ≡ free (Gives (Truth true))
equal_primitives = refl

-- "bc" in "abcd" costs 4
part_of : row (Compare In (Points (codes "bc")) (Points (codes "abcd"))) ≡ at_cost 4 (Truth true)
part_of = refl

no_part : row (Compare NotIn (Points (codes "ca")) (Points (codes "abc"))) ≡ at_cost 3 (Truth true)
no_part = refl

int_in_text : row (Compare In (Int (pos 1)) (Points (codes "1"))) ≡ type_error
int_in_text = refl

-- ---- `is`, subscripts and truth values

-- 1 is not True
another : row (Is true (Int (pos 1)) constant.True) ≡ free (Gives (Truth true))
another = refl

is_none : row (Is false Nil constant.Nil) ≡ free (Gives (Truth true))
is_none = refl

from_the_end : row (Index (Points (codes "abc")) (Int (negsuc 0))) ≡ free (Gives (Points (codes "c")))
from_the_end = refl

past_the_end : row (Index (Points (codes "abc")) (Int (negsuc 3))) ≡ free (Raises IndexError)
past_the_end = refl

by_text : row (Index (Points (codes "abc")) (Points (codes "a"))) ≡ type_error
by_text = refl

empty_is_false : row (Test (Points [])) ≡ free (Gives (Truth false))
empty_is_false = refl

tested : row (Test Host) ≡ free Looks
tested = refl

-- ---- builtins

length_of : row (Call Len (Points (codes "abc") ∷ [])) ≡ free (Gives (Int (pos 3)))
length_of = refl

-- what isn't taken isn't looked at
too_many : row (Call Len (Host ∷ Host ∷ [])) ≡ type_error
too_many = refl

no_object : row (Call Object []) ≡ type_error
no_object = refl

no_int : row (Call ToInt (Points (codes "1_0") ∷ [])) ≡ free (Raises ValueError)
no_int = refl

zero_int : row (Call ToInt []) ≡ free (Gives (Int (pos 0)))
zero_int = refl

-- str("ab") costs 2, and repr("ab") 4
as_text : row (Call ToStr (Points (codes "ab") ∷ [])) ≡ at_cost 2 (Points (codes "ab"))
as_text = refl

shown : row (Call ToRepr (Points (codes "ab") ∷ [])) ≡ at_cost 4 (Points (codes "'ab'"))
shown = refl

shown_int : row (Call ToRepr (Int (negsuc 11) ∷ [])) ≡ at_cost 3 (Points (codes "-12"))
unfolding digits
shown_int = refl

no_truth : row (Call ToBool (Nil ∷ [])) ≡ free (Gives (Truth false))
no_truth = refl

distance : row (Call Abs (Int (negsuc 2) ∷ [])) ≡ free (Gives (Int (pos 3)))
distance = refl

no_distance : row (Call Abs (Int (negsuc 9223372036854775807) ∷ [])) ≡ free (Raises OverflowError)
no_distance = refl

code_of : row (Call Ord (Points (codes "a") ∷ [])) ≡ free (Gives (Int (pos 97)))
code_of = refl

code_of_two : row (Call Ord (Points (codes "ab") ∷ [])) ≡ type_error
code_of_two = refl

of_code : row (Call Chr (Int (pos 97) ∷ [])) ≡ free (Gives (Points (codes "a")))
of_code = refl

surrogate : row (Call Chr (Int (pos 0xD800) ∷ [])) ≡ free (Raises ValueError)
surrogate = refl

-- "abc".startswith("ab") costs 2
begins : row (Call StartsWith (Points (codes "abc") ∷ Points (codes "ab") ∷ [])) ≡ at_cost 2 (Truth true)
begins = refl

ends : row (Call EndsWith (Points (codes "c") ∷ Points (codes "bc") ∷ [])) ≡ at_cost 2 (Truth false)
ends = refl

no_start : row (Call StartsWith (Points (codes "abc") ∷ Int (pos 1) ∷ [])) ≡ type_error
no_start = refl
