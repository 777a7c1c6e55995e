-- At a divisor that isn't 0 there is one floored quotient, and one remainder.
use Rattle.std.proofs.Common.{◌≡◌, ◌≢◌, ◌<◌, ◌≤◌, ◌*◌, ◌/◌, ◌%◌, ◌-◌, ◌+◌, ℕ, zero, suc, Bool, true, false, refl, sym, ap, subst, ◌∙◌, ℤ, pos, negsuc, ◌+ℤ◌, ◌-ℤ◌, ◌*ℤ◌, neg_ℤ, int_div, int_rem, unsigned_abs, arith}
use Rattle.std.proofs.lemmas.Int.{ints, quot-rem, rem_below}
use Rattle.std.proofs.lemmas.Nat.{div-mul-add, mod-mul-add}
use Rattle.atom_ops.specs.Floored.{IsFloored, IsRemainder, AreFloored, is_beside, quotient, remainder}
use Rattle.atom_ops.proofs.Division.{rounded_down, not_zero}

abbrev Are : ℤ → ℤ → ℤ → ℤ → Type 0
Are a b q r = (q ≡ quotient a b) × (r ≡ remainder a b)

-- by the signs of the divisor and of the quotient
up_up : (k n m : ℕ) → m < n → Are (pos (k * n + m)) (pos n) (pos k) (pos m)
up_up k n m h = (sym (ap pos (div-mul-add k n m h)), sym (ap pos (mod-mul-add k n m h)))

down_up : (k n m : ℕ) → m < n → Are (negsuc (k * n + (n - 1 - m))) (pos n) (negsuc k) (pos m)
down_up k n m h =
    let within : n - 1 - m < n = omega arith in
    (sym (ap negsuc (div-mul-add k n (n - 1 - m) within)), let left : n - 1 - (n - 1 - m) ≡ m = omega arith in sym (ap (λ z. pos (n - 1 - z)) (mod-mul-add k n (n - 1 - m) within) ∙ ap pos left))

down_down : (k n m : ℕ) → m ≤ n → Are (pos (suc (k * suc n + (n - m)))) (negsuc n) (negsuc k) (neg_ℤ (pos m))
down_down k n m h =
    let within : n - m < suc n = omega arith in
    (sym (ap negsuc (div-mul-add k (suc n) (n - m) within)), let left : n - (n - m) ≡ m = omega arith in sym (ap (λ z. neg_ℤ (pos (n - z))) (mod-mul-add k (suc n) (n - m) within) ∙ ap (λ z. neg_ℤ (pos z)) left))

up_down : (k n m s : ℕ) → m ≤ n → suc s ≡ k * suc n + m → Are (negsuc s) (negsuc n) (pos k) (neg_ℤ (pos m))
up_down k n m s h e =
    let within : m < suc n = omega arith in
    (sym (ap (λ z. pos (z / suc n)) e ∙ ap pos (div-mul-add k (suc n) m within)), sym (ap (λ z. neg_ℤ (pos (z % suc n))) e ∙ ap (λ z. neg_ℤ (pos z)) (mod-mul-add k (suc n) m within)))

of_sum : (a b q r x : ℤ) → q *ℤ b +ℤ r ≡ a → q *ℤ b +ℤ r ≡ x → Are x b q r → Are a b q r
of_sum a b q r x sum is are = subst (λ z. Are z b q r) (sym is ∙ sum) are

one_more : (k n : ℕ) → suc k * n ≡ k * n + n
one_more k n = omega arith

pub only : (a b q r : ℤ) → b ≢ pos 0 → IsFloored a b q r → Are a b q r
only a (pos n) q (negsuc m) other h = absurd (omega (arith, ints, h.left.0))
only a (pos n) (pos k) (pos m) other h =
    let within : m < n = omega (arith, ints, h.left.1) in of_sum a (pos n) (pos k) (pos m) (pos (k * n + m)) h.sum refl (up_up k n m within)
only a (pos n) (negsuc k) (pos m) other h =
    let within : m < n = omega (arith, ints, h.left.1) in
    of_sum a (pos n) (negsuc k) (pos m) (negsuc (k * n + (n - 1 - m))) h.sum (omega (arith, ints, one_more k n, within)) (down_up k n m within)
only a (negsuc n) q (pos (suc m)) other h = absurd (omega (arith, ints, h.left.1))
only a (negsuc n) (pos zero) (pos zero) other h = of_sum a (negsuc n) (pos 0) (pos 0) (pos 0) h.sum (omega (arith, ints)) (refl, refl)
only a (negsuc n) (pos (suc k)) (pos zero) other h =
    let step : suc (k * suc n + n) ≡ suc k * suc n + 0 = omega arith in
    of_sum a (negsuc n) (pos (suc k)) (pos 0) (negsuc (k * suc n + n)) h.sum (omega (arith, ints, step)) (up_down (suc k) n 0 (k * suc n + n) (omega arith) step)
only a (negsuc n) (negsuc k) (pos zero) other h =
    let step : suc k * suc n ≡ suc (k * suc n + (n - 0)) = omega arith in
    of_sum a (negsuc n) (negsuc k) (pos 0) (pos (suc (k * suc n + (n - 0)))) h.sum (omega (arith, ints, step)) (down_down k n 0 (omega arith))
only a (negsuc n) (pos k) (negsuc m) other h =
    let within : suc m ≤ n = omega (arith, ints, h.left.0) in
    of_sum a (negsuc n) (pos k) (negsuc m) (negsuc (k * suc n + m)) h.sum (omega (arith, ints)) (up_down k n (suc m) (k * suc n + m) within (omega arith))
only a (negsuc n) (negsuc k) (negsuc m) other h =
    let within : suc m ≤ n = omega (arith, ints, h.left.0) in
    let step : suc k * suc n ≡ k * suc n + suc n = omega arith in
    of_sum a (negsuc n) (negsuc k) (negsuc m) (pos (suc (k * suc n + (n - suc m)))) h.sum (omega (arith, ints, step, within)) (down_down k n (suc m) within)

-- ---- and there is one

left_beside : (b r : ℤ) → b ≢ pos 0 → unsigned_abs r < unsigned_abs b → is_beside b r ≡ true → IsRemainder b r
left_beside (pos n) (pos m) other h e = (omega (arith, ints, h), omega (arith, ints, h))
left_beside (pos n) (negsuc m) other h e = absurd cc
left_beside (negsuc n) (pos zero) other h e = (omega (arith, ints, h), omega (arith, ints, h))
left_beside (negsuc n) (pos (suc m)) other h e = absurd (grind (arith, ints, e))
left_beside (negsuc n) (negsuc m) other h e = (omega (arith, ints, h), omega (arith, ints, h))

record IsDivided (a b : ℤ) : Type 0 where
  q : ℤ
  r : ℤ
  is_floored : IsFloored a b q r

there : (a b : ℤ) (side : Bool) → b ≢ pos 0 → is_beside b (int_rem a b) ≡ side → IsDivided a b
there a b true other e = record { q = int_div a b; r = int_rem a b; is_floored = record { sum = quot-rem a b; left = left_beside b (int_rem a b) other (rem_below a b (not_zero b other)) e } }
there a b false other e = record { q = int_div a b -ℤ pos 1; r = int_rem a b +ℤ b; is_floored = rounded_down a b (int_div a b) (int_rem a b) other refl refl e }

pub floored_everywhere : AreFloored
floored_everywhere a b other =
    let one = there a b (is_beside b (int_rem a b)) other refl in
    let are = only a b one.q one.r other one.is_floored in
    (subst (λ q. IsFloored a b q (remainder a b)) are.0 (subst (IsFloored a b one.q) are.1 one.is_floored), λ q r h. only a b q r other h)
