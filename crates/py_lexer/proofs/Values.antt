-- Values of digits.
use Rattle.std.proofs.Common.{◌≡◌, ℕ, zero, suc, ◌+◌, ◌*◌, ◌≤◌, ◌<◌, ◌^◌, min, Bool, true, false, cond, List, [], ◌∷◌, drop, length, get_or, Some, None, refl, sym, ap, ◌∙◌, arith}
use Rattle.std.specs.Prelude.{◌==◌, ◌&&◌, nat_lt, nat_le}
use Rattle.std.specs.Char.{digit_value, is_digit}
use Rattle.std.specs.List.{list_all}
use Rattle.std.specs.Option.{option_map}
use Rattle.std.proofs.lemmas.List.{drop_more}
use Rattle.std.proofs.lemmas.Bool.{leb-true, leb-false, eqb-true}
use Rattle.py_tree.specs.Literals.{greatest_int}
use Rattle.py_lexer.specs.Strings.{value_from}
use Rattle.py_lexer.specs.Reading.{capped, digits_in}
use Rattle.py_lexer.specs.Views.{value_in_from}

grows_once : (n base d : ℕ) → 1 ≤ base → n ≤ n * base + d
grows_once n zero d h = absurd (omega arith)
grows_once n (suc base) d h = grind arith

grows : (base n : ℕ) (cs : List ℕ) → 1 ≤ base → n ≤ value_from base n cs
grows base n [] h = omega arith
grows base n (c ∷ cs) h = omega (arith, grows base (n * base + digit_value c) cs h, grows_once n base (digit_value c) h)

not_below : (a b : ℕ) → b ≤ a → nat_lt a b ≡ false
not_below a b h = grind arith

over : (base n : ℕ) (cs : List ℕ) → 1 ≤ base → 2 ^ 32 ≤ n → value_in_from base n cs ≡ None
over base n cs h h' = let e = not_below (value_from base n cs) (2 ^ 32) (omega (arith, grows base n cs h)) in rw e (go (list_all (λ c. is_digit c base) cs))
  where
    go : (b : Bool) → cond (b && false) (Some (value_from base n cs)) None ≡ None
    go true = refl
    go false = refl

over_next : (base n c : ℕ) (cs : List ℕ) → 1 ≤ base → 2 ^ 32 ≤ n * base + digit_value c → value_in_from base n (c ∷ cs) ≡ None
over_next base n c cs h h' = let e = not_below (value_from base (n * base + digit_value c) cs) (2 ^ 32) (omega (arith, grows base (n * base + digit_value c) cs h)) in rw e (go (is_digit c base && list_all (λ c. is_digit c base) cs))
  where
    go : (b : Bool) → cond (b && false) (Some (value_from base (n * base + digit_value c) cs)) None ≡ None
    go true = refl
    go false = refl

pub mul_over : (base n i c : ℕ) (cs : List ℕ) → 2 ≤ base → i < length cs → (n * base < 2 ^ 32 → ⊥) → value_in_from base n (drop i cs) ≡ None
mul_over base n i c cs h h' k = ap (value_in_from base n) (drop_more cs i c h') ∙ over_next base n (get_or cs i c) (drop (i + 1) cs) (omega (arith, h)) (above (n * base) (digit_value (get_or cs i c)) k)
  where
    above : (a b : ℕ) → (a < 2 ^ 32 → ⊥) → 2 ^ 32 ≤ a + b
    above a b k = go (nat_le (2 ^ 32) a) (leb-true _ _) (leb-false _ _)
      where
        go : (x : Bool) → (x ≡ true → 2 ^ 32 ≤ a) → (x ≡ false → a < 2 ^ 32) → 2 ^ 32 ≤ a + b
        go true u v = let y = u refl in omega arith
        go false u v = absurd (k (v refl))

pub add_over : (base n i c : ℕ) (cs : List ℕ) (product digit : ℕ) → 2 ≤ base → i < length cs → c ≡ get_or cs i c → product ≡ n * base → digit ≡ digit_value c → (product + digit < 2 ^ 32 → ⊥) → value_in_from base n (drop i cs) ≡ None
add_over base n i c cs product digit h h' e p d k =
    let x : 2 ^ 32 ≤ n * base + digit_value c = above (product + digit) (n * base + digit_value c) (rw (p, d) refl) k in
    ap (value_in_from base n) (drop_more cs i c h') ∙ ap (λ x. value_in_from base n (x ∷ drop (i + 1) cs)) (sym e) ∙ over_next base n c (drop (i + 1) cs) (omega (arith, h)) x
  where
    above : (a b : ℕ) → a ≡ b → (a < 2 ^ 32 → ⊥) → 2 ^ 32 ≤ b
    above a b e k = go (nat_le (2 ^ 32) a) (leb-true _ _) (leb-false _ _)
      where
        go : (x : Bool) → (x ≡ true → 2 ^ 32 ≤ a) → (x ≡ false → a < 2 ^ 32) → 2 ^ 32 ≤ b
        go true u v = let y = u refl in omega (arith, e)
        go false u v = absurd (k (v refl))

cap_large : (n : ℕ) → greatest_int + 1 ≤ n → capped n ≡ greatest_int + 1
cap_large n h = grind arith

large : (base a b : ℕ) (underscore : Bool) (cs : List ℕ) → 1 ≤ base → greatest_int + 1 ≤ a → greatest_int + 1 ≤ b
    → option_map capped (digits_in base a underscore cs) ≡ option_map capped (digits_in base b underscore cs)
large base a b true [] h ha hb = refl
large base a b false [] h ha hb = ap Some (cap_large a ha ∙ sym (cap_large b hb))
large base a b u (c ∷ cs) h ha hb = go (c == 95) u (nat_lt (digit_value c) base) (large base a b true cs h ha hb) (large base (a * base + digit_value c) (b * base + digit_value c) false cs h (omega (arith, ha, grows_once a base (digit_value c) h)) (omega (arith, hb, grows_once b base (digit_value c) h)))
  where
    go : (l u d : Bool) → option_map capped (digits_in base a true cs) ≡ option_map capped (digits_in base b true cs)
        → option_map capped (digits_in base (a * base + digit_value c) false cs) ≡ option_map capped (digits_in base (b * base + digit_value c) false cs)
        → option_map capped (cond l (cond u None (digits_in base a true cs)) (cond d (digits_in base (a * base + digit_value c) false cs) None)) ≡ option_map capped (cond l (cond u None (digits_in base b true cs)) (cond d (digits_in base (b * base + digit_value c) false cs) None))
    go true true d e f = refl
    go true false d e f = e
    go false u true e f = f
    go false u false e f = refl

pub cap_digits : (base n : ℕ) (underscore : Bool) (cs : List ℕ) → 1 ≤ base → option_map capped (digits_in base (min n (greatest_int + 1)) underscore cs) ≡ option_map capped (digits_in base n underscore cs)
cap_digits base n u cs h = go (nat_le (greatest_int + 1) n) (leb-true _ _) (leb-false _ _)
  where
    go : (b : Bool) → (b ≡ true → greatest_int + 1 ≤ n) → (b ≡ false → n < greatest_int + 1) → option_map capped (digits_in base (min n (greatest_int + 1)) u cs) ≡ option_map capped (digits_in base n u cs)
    go true h' k = let e : min n (greatest_int + 1) ≡ greatest_int + 1 = cap_large n (h' refl) in rw e (large base (greatest_int + 1) n u cs h (omega arith) (h' refl))
    go false h' k = let x = k refl in let e : min n (greatest_int + 1) ≡ n = grind arith in rw e refl

-- the loop over digits, at a digit
pub next_digit : (base n i c m : ℕ) (cs : List ℕ) (underscore : Bool) → 2 ≤ base → i < length cs → c ≡ get_or cs i c → (c ≡ 95 → ⊥) → digit_value c < base → m ≡ min (n * base + digit_value c) (greatest_int + 1)
    → option_map capped (digits_in base m false (drop (i + 1) cs)) ≡ option_map capped (digits_in base n underscore (drop i cs))
next_digit base n i c m cs u h h' e k l em =
    let here : drop i cs ≡ c ∷ drop (i + 1) cs = drop_more cs i c h' ∙ ap (λ x. x ∷ drop (i + 1) cs) (sym e) in
    let other : (c == 95) ≡ false = different (c == 95) (eqb-true c 95) k in
    let digit : nat_lt (digit_value c) base ≡ true = below (digit_value c) base l in
    let step : digits_in base n u (c ∷ drop (i + 1) cs) ≡ digits_in base (n * base + digit_value c) false (drop (i + 1) cs) = rw (other, digit) refl in
    ap (λ x. option_map capped (digits_in base x false (drop (i + 1) cs))) em ∙ cap_digits base (n * base + digit_value c) false (drop (i + 1) cs) (omega (arith, h)) ∙ ap (option_map capped) (sym step) ∙ ap (λ x. option_map capped (digits_in base n u x)) (sym here)
  where
    different : (b : Bool) → (b ≡ true → c ≡ 95) → (c ≡ 95 → ⊥) → b ≡ false
    different true f g = absurd (g (f refl))
    different false f g = refl

    below : (a b : ℕ) → a < b → nat_lt a b ≡ true
    below a b h = grind arith
