-- The results of operators, from the numbers that were computed.
use Rattle.std.proofs.Common.{◌≡◌, ◌≢◌, ◌<◌, ◌≤◌, ◌/◌, ◌%◌, ◌-◌, ◌^◌, ℕ, zero, suc, true, nat_lt, Result, Ok, refl, sym, ap, subst, ◌∙◌, ℤ, pos, negsuc, FitsSigned, to_z, of_z, w64, neg_ℤ, arith}
use Rattle.std.specs.Int.{int_wrap, int_wrapping_neg}
use Rattle.std.proofs.lemmas.Int.{int_wrap_fits, wrapping_neg_is, to_z-of_z}
use Rattle.std.proofs.Math.Nat.{div-le_self, div-lt_self, div-one, mod-le, mod-lt}
use Rattle.py_values.specs.declared.exception.ExcKind.{ExcKind}
use Rattle.atom_ops.specs.Arithmetic.{as_int, by_divisor, wrapped}
use Rattle.atom_ops.specs.Floored.{IsFloored, quotient, remainder}
use Rattle.atom_ops.proofs.OneQuotient.{only}

fits_int : (z : ℤ) → FitsSigned w64 z → as_int z ≡ wrapped z
fits_int (pos n) f = let fits : nat_lt n (2 ^ 63) ≡ true = grind (arith, f.sfits) in rw fits (ap Ok (sym (int_wrap_fits w64 (pos n) f)))
fits_int (negsuc n) f = let fits : nat_lt n (2 ^ 63) ≡ true = grind (arith, f.sfits) in rw fits (ap Ok (sym (int_wrap_fits w64 (negsuc n) f)))

divided : (b : ℤ) (r : Result ℤ ExcKind) → b ≢ pos 0 → r ≡ by_divisor b r
divided (pos zero) r other = absurd (other refl)
divided (pos (suc n)) r other = refl
divided (negsuc n) r other = refl

-- what is said of the numbers' bits
pub of_bits : (a b q r : ℤ) → FitsSigned w64 a → FitsSigned w64 b → IsFloored (to_z w64 (of_z w64 a)) (to_z w64 (of_z w64 b)) q r → IsFloored a b q r
of_bits a b q r f g h = subst (λ z. IsFloored a z q r) (to_z-of_z w64 b g) (subst (λ z. IsFloored z (to_z w64 (of_z w64 b)) q r) (to_z-of_z w64 a f) h)

-- ---- quotients

pub quotient_is : (a b q r : ℤ) (x : Result ℤ ExcKind) → b ≢ pos 0 → IsFloored a b q r → x ≡ as_int q → x ≡ by_divisor b (as_int (quotient a b))
quotient_is a b q r x other h e = e ∙ ap as_int (only a b q r other h).0 ∙ divided b _ other

quotient_fits : (a b : ℤ) → FitsSigned w64 a → FitsSigned w64 b → b ≢ negsuc 0 → FitsSigned w64 (quotient a b)
quotient_fits (pos a) (pos b) f g other = record { sfits = omega (arith, div-le_self a b, f.sfits) }
quotient_fits (negsuc a) (pos b) f g other = record { sfits = omega (arith, div-le_self a b, f.sfits) }
quotient_fits (pos zero) (negsuc b) f g other = record { sfits = omega arith }
quotient_fits (pos (suc a)) (negsuc b) f g other = record { sfits = omega (arith, div-le_self a (suc b), f.sfits) }
quotient_fits (negsuc a) (negsuc zero) f g other = absurd (other refl)
quotient_fits (negsuc a) (negsuc (suc b)) f g other =
    let less : suc a / suc (suc b) < suc a = div-lt_self (omega arith) (omega arith) in record { sfits = omega (arith, less, f.sfits) }

pub primitive_quotient : (a b : ℤ) (x : Result ℤ ExcKind) → FitsSigned w64 a → FitsSigned w64 b → b ≢ negsuc 0 → x ≡ by_divisor b (as_int (quotient a b)) → x ≡ by_divisor b (wrapped (quotient a b))
primitive_quotient a b x f g other e = e ∙ ap (by_divisor b) (fits_int (quotient a b) (quotient_fits a b f g other))

by_minus_one : (a : ℤ) → neg_ℤ a ≡ quotient a (negsuc 0)
by_minus_one (pos zero) = refl
by_minus_one (pos (suc a)) = ap negsuc (sym (div-one a))
by_minus_one (negsuc a) = ap pos (sym (div-one (suc a)))

pub negated : (a b : ℤ) → FitsSigned w64 a → b ≡ negsuc 0 → Ok (int_wrapping_neg w64 a) ≡ by_divisor b (wrapped (quotient a b))
negated a b f e = ap Ok (wrapping_neg_is w64 a f ∙ ap (int_wrap w64) (by_minus_one a)) ∙ ap (λ z. by_divisor z (wrapped (quotient a z))) (sym e)

-- ---- remainders

negative : (n : ℕ) → n ≤ 2 ^ 63 → FitsSigned w64 (neg_ℤ (pos n))
negative zero h = record { sfits = omega arith }
negative (suc n) h = record { sfits = omega (arith, h) }

remainder_fits : (a b : ℤ) → FitsSigned w64 a → FitsSigned w64 b → FitsSigned w64 (remainder a b)
remainder_fits (pos a) (pos b) f g = record { sfits = omega (arith, mod-le a b, f.sfits) }
remainder_fits (negsuc a) (pos b) f g = record { sfits = omega (arith, g.sfits) }
remainder_fits (pos zero) (negsuc b) f g = record { sfits = omega arith }
remainder_fits (pos (suc a)) (negsuc b) f g = negative (b - a % suc b) (omega (arith, g.sfits))
remainder_fits (negsuc a) (negsuc b) f g =
    let less : suc a % suc b < suc b = mod-lt (suc a) (omega arith) in negative (suc a % suc b) (omega (arith, less, g.sfits))

pub remainder_is : (a b q r : ℤ) (x : Result ℤ ExcKind) → b ≢ pos 0 → IsFloored a b q r → x ≡ as_int r → x ≡ by_divisor b (as_int (remainder a b))
remainder_is a b q r x other h e = e ∙ ap as_int (only a b q r other h).1 ∙ divided b _ other

pub primitive_remainder : (a b : ℤ) (x : Result ℤ ExcKind) → FitsSigned w64 a → FitsSigned w64 b → x ≡ by_divisor b (as_int (remainder a b)) → x ≡ by_divisor b (wrapped (remainder a b))
primitive_remainder a b x f g e = e ∙ ap (by_divisor b) (fits_int (remainder a b) (remainder_fits a b f g))
