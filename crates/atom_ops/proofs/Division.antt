-- The quotient that is rounded down, from the one that is rounded toward 0.
use Rattle.std.proofs.Common.{◌≡◌, ◌≢◌, ◌<◌, ◌≤◌, ◌/◌, ℕ, zero, suc, false, refl, sym, ap, subst, ◌∙◌, ℤ, pos, negsuc, ◌+ℤ◌, ◌-ℤ◌, ◌*ℤ◌, neg_ℤ, int_div, int_rem, unsigned_abs, FitsSigned, to_z, of_z, w64, ◌^◌, arith}
use native.Mathlib.Nat.{div-le_self}
use Rattle.std.specs.Int.{w128}
use Rattle.std.proofs.lemmas.Int.{ints, quot-rem, rem_below}
use lib.IntN.{pred_ℤ, pred_ℤ-*ℤ}
use Rattle.atom_ops.specs.Floored.{IsFloored, IsRemainder, is_beside}

-- ---- what is left, on the divisor's side

one_less : (q : ℤ) → q -ℤ pos 1 ≡ pred_ℤ q
one_less (pos zero) = refl
one_less (pos (suc n)) = omega (arith, ints)
one_less (negsuc n) = omega (arith, ints)

sum_below : (a b q r : ℤ) → q *ℤ b +ℤ r ≡ a → (q -ℤ pos 1) *ℤ b +ℤ (r +ℤ b) ≡ a
sum_below a b q r h = let p : (q -ℤ pos 1) *ℤ b ≡ q *ℤ b -ℤ b = ap (λ z. z *ℤ b) (one_less q) ∙ pred_ℤ-*ℤ q b in omega (arith, ints)

left_below : (b r : ℤ) → b ≢ pos 0 → unsigned_abs r < unsigned_abs b → is_beside b r ≡ false → IsRemainder b (r +ℤ b)
left_below (pos n) (pos m) other h e = absurd (grind (arith, ints, e))
left_below (pos n) (negsuc m) other h e = (omega (arith, ints, h), omega (arith, ints, h))
left_below (negsuc n) (pos zero) other h e = absurd (grind (arith, ints, e))
left_below (negsuc n) (pos (suc m)) other h e = (omega (arith, ints, h), omega (arith, ints, h))
left_below (negsuc n) (negsuc m) other h e = absurd (grind (arith, ints, e))

pub not_zero : (b : ℤ) → b ≢ pos 0 → 0 < unsigned_abs b
not_zero (pos zero) h = absurd (h refl)
not_zero (pos (suc n)) h = omega arith
not_zero (negsuc n) h = omega arith

pub rounded_down : (a b q r : ℤ) → b ≢ pos 0 → q ≡ int_div a b → r ≡ int_rem a b → is_beside b r ≡ false → IsFloored a b (q -ℤ pos 1) (r +ℤ b)
rounded_down a b q r other h k e =
    record {
      sum = sum_below a b q r (ap (λ z. z *ℤ b +ℤ r) h ∙ ap (λ z. int_div a b *ℤ b +ℤ z) k ∙ quot-rem a b);
      left = left_below b r other (subst (λ z. unsigned_abs z < unsigned_abs b) (sym k) (rem_below a b (not_zero b other))) e;
    }

-- ---- in numbers of 128 bits

abs_neg : (n : ℕ) → unsigned_abs (neg_ℤ (pos n)) ≡ n
abs_neg zero = refl
abs_neg (suc n) = refl

quotient_bound : (a b : ℤ) → unsigned_abs (int_div a b) ≤ unsigned_abs a
quotient_bound (pos a) (pos b) = div-le_self a b
quotient_bound (pos a) (negsuc b) = subst (λ n. n ≤ a) (sym (abs_neg (a / suc b))) (div-le_self a (suc b))
quotient_bound (negsuc a) (pos b) = subst (λ n. n ≤ suc a) (sym (abs_neg (suc a / b))) (div-le_self (suc a) b)
quotient_bound (negsuc a) (negsuc b) = div-le_self (suc a) (suc b)

abs_fits : (a : ℤ) → FitsSigned w64 a → unsigned_abs a ≤ 2 ^ 63
abs_fits (pos n) f = omega (arith, f.sfits)
abs_fits (negsuc n) f = omega (arith, f.sfits)

less_one : (q : ℤ) → unsigned_abs q ≤ 2 ^ 63 → to_z w128 (of_z w128 (to_z w128 (of_z w128 q) -ℤ pos 1)) ≡ q -ℤ pos 1
less_one (pos n) h = omega (arith, ints, h)
less_one (negsuc n) h = omega (arith, ints, h)

added : (r b : ℤ) → unsigned_abs r ≤ 2 ^ 63 → unsigned_abs b ≤ 2 ^ 63 → to_z w128 (of_z w128 (to_z w128 (of_z w128 r) +ℤ to_z w128 (of_z w128 b))) ≡ r +ℤ b
added (pos m) (pos n) h k = omega (arith, ints, h, k)
added (pos m) (negsuc n) h k = omega (arith, ints, h, k)
added (negsuc m) (pos n) h k = omega (arith, ints, h, k)
added (negsuc m) (negsuc n) h k = omega (arith, ints, h, k)

pub computed : (a b q r x : ℤ) → FitsSigned w64 a → FitsSigned w64 b → b ≢ pos 0 → q ≡ int_div a b → r ≡ int_rem a b → x ≡ b → is_beside b r ≡ false
    → IsFloored a b (to_z w128 (of_z w128 (to_z w128 (of_z w128 q) -ℤ pos 1))) (to_z w128 (of_z w128 (to_z w128 (of_z w128 r) +ℤ to_z w128 (of_z w128 x))))
computed a b q r x f g other h k e away =
    let small : unsigned_abs q ≤ 2 ^ 63 = subst (λ z. unsigned_abs z ≤ 2 ^ 63) (sym h) (omega (arith, quotient_bound a b, abs_fits a f)) in
    let left : unsigned_abs r ≤ 2 ^ 63 = subst (λ z. unsigned_abs z ≤ 2 ^ 63) (sym k) (omega (arith, rem_below a b (not_zero b other), abs_fits b g)) in
    let below : to_z w128 (of_z w128 (to_z w128 (of_z w128 r) +ℤ to_z w128 (of_z w128 x))) ≡ r +ℤ b = ap (λ z. to_z w128 (of_z w128 (to_z w128 (of_z w128 r) +ℤ to_z w128 (of_z w128 z)))) e ∙ added r b left (abs_fits b g) in
    subst (λ z. IsFloored a b z (to_z w128 (of_z w128 (to_z w128 (of_z w128 r) +ℤ to_z w128 (of_z w128 x))))) (sym (less_one q small))
    (subst (IsFloored a b (q -ℤ pos 1)) (sym below) (rounded_down a b q r other h k away))
