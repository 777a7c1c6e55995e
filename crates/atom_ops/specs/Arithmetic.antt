-- Arithmetic of `int` and of `int64`.
use Rattle.std.specs.Prelude.{zero, Bool, if◌then◌else◌, nat_lt, ◌^◌, Result, Ok, Err, ℤ, pos, negsuc, ◌+ℤ◌, ◌-ℤ◌, ◌*ℤ◌, neg_ℤ}
use Rattle.std.specs.Int.{int_wrap, w64}
use Rattle.py_tree.specs.declared.operator.BinaryOp.{BinaryOp}
use Rattle.py_tree.specs.declared.operator.BinaryOp.TheVariants.{Add, Sub, Mul, FloorDiv, Mod}
use Rattle.py_values.specs.declared.exception.ExcKind.{ExcKind}
use Rattle.py_values.specs.declared.exception.ExcKind.TheVariants.{OverflowError, ZeroDivisionError}
use Rattle.atom_ops.specs.Floored.{quotient, remainder}

-- from -2^63 to 2^63 - 1
abbrev pub is_int : ℤ → Bool
is_int (pos n) = nat_lt n (2 ^ 63)
is_int (negsuc n) = nat_lt n (2 ^ 63)

abbrev pub as_int : ℤ → Result ℤ ExcKind
as_int n = if is_int n then Ok n else Err OverflowError

abbrev pub by_divisor : ℤ → Result ℤ ExcKind → Result ℤ ExcKind
by_divisor (pos zero) answer = Err ZeroDivisionError
by_divisor b answer = answer

-- `a op b` of ints
abbrev pub int_result : BinaryOp → ℤ → ℤ → Result ℤ ExcKind
int_result Add a b = as_int (a +ℤ b)
int_result Sub a b = as_int (a -ℤ b)
int_result Mul a b = as_int (a *ℤ b)
int_result FloorDiv a b = by_divisor b (as_int (quotient a b))
int_result Mod a b = by_divisor b (as_int (remainder a b))

-- `-a` of an int
abbrev pub negated : ℤ → Result ℤ ExcKind
negated a = as_int (neg_ℤ a)

-- the number of an `int64` that is the same modulo 2^64
abbrev pub wrapped : ℤ → Result ℤ ExcKind
wrapped n = Ok (int_wrap w64 n)

-- `a op b` of `int64`s
abbrev pub primitive_result : BinaryOp → ℤ → ℤ → Result ℤ ExcKind
primitive_result Add a b = wrapped (a +ℤ b)
primitive_result Sub a b = wrapped (a -ℤ b)
primitive_result Mul a b = wrapped (a *ℤ b)
primitive_result FloorDiv a b = by_divisor b (wrapped (quotient a b))
primitive_result Mod a b = by_divisor b (wrapped (remainder a b))
