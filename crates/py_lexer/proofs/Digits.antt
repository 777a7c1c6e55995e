-- An integer literal is read to its value, and to no other.
use Rattle.std.proofs.Common.{◌≡◌, ℕ, ◌+◌, ◌*◌, ◌≤◌, ◌<◌, Bool, true, false, cond, List, [], ◌∷◌, Option, Some, None, refl, sym, ap, subst, ◌∙◌, arith}
use Rattle.std.specs.Prelude.{◌==◌, ◌||◌, nat_lt}
use Rattle.std.specs.Char.{digit_value}
use Rattle.std.proofs.lemmas.Bool.{eqb-true}
use Rattle.py_lexer.specs.Integers.{Digits, no_more, digit, underscore, base_of, prefix_base, Integer, decimal, prefixed}
use Rattle.py_lexer.specs.Reading.{digits_in, zero_or, decimal_in, prefixed_in, by_base, integer_in}

below : (a b : ℕ) → a < b → nat_lt a b ≡ true
below a b h = grind arith

is_below : (a b : ℕ) → nat_lt a b ≡ true → a < b
is_below a b h = grind arith

no_underscore : (c base : ℕ) → digit_value c < base → base ≤ 36 → (c == 95) ≡ false
no_underscore c base h h' = go (c == 95) (eqb-true c 95)
  where
    go : (b : Bool) → (b ≡ true → c ≡ 95) → b ≡ false
    go true e = absurd (impossible (subst (λ c. digit_value c < base) (e refl) h))
      where
        impossible : 36 < base → ⊥
        impossible h = omega (arith, h')
    go false e = refl

at_digit : (base n c : ℕ) (cs : List ℕ) (u : Bool) → base ≤ 36 → digit_value c < base → digits_in base n u (c ∷ cs) ≡ digits_in base (n * base + digit_value c) false cs
at_digit base n c cs u h h' = go (c == 95) (nat_lt (digit_value c) base) (no_underscore c base h' h) (below (digit_value c) base h')
  where
    go : (l d : Bool) → l ≡ false → d ≡ true → cond l (cond u None (digits_in base n true cs)) (cond d (digits_in base (n * base + digit_value c) false cs) None) ≡ digits_in base (n * base + digit_value c) false cs
    go l d e f = rw (e, f) refl

pub digits_are : {base n m : ℕ} {cs : List ℕ} → base ≤ 36 → Digits base n cs m → digits_in base n false cs ≡ Some m
digits_are h no_more = refl
digits_are {base = base} {n = n} h (digit {c = c} {cs = cs} h' d) = at_digit base n c cs false h h' ∙ digits_are h d
digits_are {base = base} {n = n} h (underscore {c = c} {cs = cs} h' d) = at_digit base n c cs true h h' ∙ digits_are h d

-- with an underscore before them or not
abbrev Behind : ℕ → ℕ → Bool → List ℕ → ℕ → Type 0
Behind base n true cs m = Digits base n (95 ∷ cs) m
Behind base n false cs m = Digits base n cs m

digits_stand : (base n m : ℕ) (u : Bool) (cs : List ℕ) → digits_in base n u cs ≡ Some m → Behind base n u cs m
digits_stand base n m true [] e = absurd cc
digits_stand base n m false [] e = let same : n ≡ m = cc in subst (Digits base n []) same no_more
digits_stand base n m u (c ∷ cs) e = go u (c == 95) (eqb-true c 95) (nat_lt (digit_value c) base) (is_below (digit_value c) base) e (digits_stand base n m true cs) (digits_stand base (n * base + digit_value c) m false cs)
  where
    go : (u l : Bool) → (l ≡ true → c ≡ 95) → (d : Bool) → (d ≡ true → digit_value c < base) → cond l (cond u None (digits_in base n true cs)) (cond d (digits_in base (n * base + digit_value c) false cs) None) ≡ Some m
        → (digits_in base n true cs ≡ Some m → Digits base n (95 ∷ cs) m) → (digits_in base (n * base + digit_value c) false cs ≡ Some m → Digits base (n * base + digit_value c) cs m) → Behind base n u (c ∷ cs) m
    go true true h d h' e f g = absurd cc
    go false true h d h' e f g = subst (λ x. Digits base n (x ∷ cs) m) (sym (h refl)) (f e)
    go true false h true h' e f g = underscore (h' refl) (g e)
    go false false h true h' e f g = digit (h' refl) (g e)
    go u false h false h' e f g = absurd cc

base_fits : (c base : ℕ) → base_of c ≡ Some base → base ≤ 36
base_fits c base e = go (c == 120 || c == 88) (c == 111 || c == 79) (c == 98 || c == 66) e
  where
    go : (x o b : Bool) → cond x (Some 16) (cond o (Some 8) (cond b (Some 2) None)) ≡ Some base → base ≤ 36
    go true o b e = let s : 16 ≡ base = cc in omega (arith, s)
    go false true b e = let s : 8 ≡ base = cc in omega (arith, s)
    go false false true e = let s : 2 ≡ base = cc in omega (arith, s)
    go false false false e = absurd cc

prefix_fits : (cs : List ℕ) (base : ℕ) → prefix_base cs ≡ Some base → base ≤ 36
prefix_fits [] base e = absurd cc
prefix_fits (c ∷ []) base e = absurd cc
prefix_fits (c ∷ d ∷ cs) base e = go (c == 48) e
  where
    go : (b : Bool) → cond b (base_of d) None ≡ Some base → base ≤ 36
    go true e = base_fits d base e
    go false e = absurd cc

zero_kept : (c n : ℕ) → (c ≡ 48 → n ≡ 0) → zero_or (c == 48) (Some n) ≡ Some n
zero_kept c n h = go (c == 48) (eqb-true c 48)
  where
    go : (b : Bool) → (b ≡ true → c ≡ 48) → zero_or b (Some n) ≡ Some n
    go true e = let z : (n == 0) ≡ true = grind (arith, h (e refl)) in rw z refl
    go false e = refl

pub integer_is : {cs : List ℕ} {n : ℕ} → Integer cs n → integer_in cs ≡ Some n
integer_is {n = n} (decimal {c = c} {cs = cs} p h z d) =
    ap (λ o. by_base o (c ∷ cs)) p
    ∙ ap (λ b. cond b (zero_or (c == 48) (digits_in 10 (digit_value c) false cs)) None) (below (digit_value c) 10 h)
    ∙ ap (zero_or (c == 48)) (digits_are (omega arith) d) ∙ zero_kept c n z
integer_is (prefixed {c = c} {d = x} {e = e} {base = base} {cs = cs} p d) = ap (λ o. by_base o (c ∷ x ∷ e ∷ cs)) p ∙ digits_are (prefix_fits (c ∷ x ∷ e ∷ cs) base p) d

abbrev IsInteger : List ℕ → Option ℕ → Type 0
IsInteger cs None = Unit {0}
IsInteger cs (Some n) = Integer cs n

decimal_stands : (c n : ℕ) (cs : List ℕ) → prefix_base (c ∷ cs) ≡ None → decimal_in (c ∷ cs) ≡ Some n → Integer (c ∷ cs) n
decimal_stands c n cs p e = go (nat_lt (digit_value c) 10) (is_below (digit_value c) 10) (c == 48) (is_zero c) (digits_in 10 (digit_value c) false cs) refl e
  where
    is_zero : (c : ℕ) → (c == 48) ≡ false → c ≡ 48 → ⊥
    is_zero c e e' = let x : (c == 48) ≡ true = grind (arith, e') in absurd cc

    go : (b : Bool) → (b ≡ true → digit_value c < 10) → (z : Bool) → (z ≡ false → c ≡ 48 → ⊥) → (o : Option ℕ) → digits_in 10 (digit_value c) false cs ≡ o → cond b (zero_or z o) None ≡ Some n → Integer (c ∷ cs) n
    go false h z k o i e = absurd cc
    go true h true k None i e = absurd cc
    go true h true k (Some m) i e = zero (m == 0) (eqb-true m 0) e
      where
        zero : (b : Bool) → (b ≡ true → m ≡ 0) → cond b (Some m) None ≡ Some n → Integer (c ∷ cs) n
        zero true f e = let same : m ≡ n = cc in decimal p (h refl) (λ _. sym same ∙ f refl) (digits_stand 10 (digit_value c) n false cs (i ∙ ap Some same))
        zero false f e = absurd cc
    go true h false k o i e = let o_is : zero_or false o ≡ o = other o in decimal p (h refl) (λ c48. absurd (k refl c48)) (digits_stand 10 (digit_value c) n false cs (i ∙ sym o_is ∙ e))
      where
        other : (o : Option ℕ) → zero_or false o ≡ o
        other None = refl
        other (Some x) = refl

pub integer_stands : (c : ℕ) (cs : List ℕ) (n : ℕ) → integer_in (c ∷ cs) ≡ Some n → Integer (c ∷ cs) n
integer_stands c cs n e = go (prefix_base (c ∷ cs)) refl e
  where
    prefixed_stands : (base : ℕ) (cs : List ℕ) → prefix_base (c ∷ cs) ≡ Some base → prefixed_in base (c ∷ cs) ≡ Some n → Integer (c ∷ cs) n
    prefixed_stands base [] p e = absurd cc
    prefixed_stands base (d ∷ []) p e = absurd cc
    prefixed_stands base (d ∷ x ∷ cs) p e = prefixed p (digits_stand base 0 n false (x ∷ cs) e)

    go : (o : Option ℕ) → prefix_base (c ∷ cs) ≡ o → by_base o (c ∷ cs) ≡ Some n → Integer (c ∷ cs) n
    go None p e = decimal_stands c n cs p e
    go (Some base) p e = prefixed_stands base cs p e
