-- A piece isn't empty, and what is behind it is the end of the text.
use Rattle.std.proofs.Common.{◌≡◌, ℕ, ◌≤◌, ◌<◌, Bool, true, false, cond, List, [], ◌∷◌, drop, length, Option, Some, None, refl, ap, arith}
use Rattle.std.specs.Prelude.{◌==◌, ◌&&◌, nat_lt}
use Rattle.std.specs.Option.{option_and_then}
use Rattle.std.specs.List.{prefix_len, list_all}
use Rattle.std.proofs.lemmas.List.{length-drop}
use Rattle.py_lexer.specs.declared.string_literal.Quotes.{Quotes}
use Rattle.py_lexer.specs.declared.token.Token.{Token}
use Rattle.py_lexer.specs.declared.token.Mark.{Mark}
use Rattle.unicode_ident.specs.Ident.{is_xid_continue}
use Rattle.py_lexer.specs.Characters.{Text}
use Rattle.py_lexer.specs.Integers.{in_number}
use Rattle.py_lexer.specs.Strings.{opening, opening_by, after_one, after_two, after_three, after_closing, Parts, closing, part}
use Rattle.py_lexer.specs.Tokens.{MarkAt, after_spelling, mark_or, first_mark, marks, TokenAt, a_name, an_integer, a_string, a_mark}
use Rattle.py_lexer.proofs.Quoted.{part_shortens}

pub drops : (n : ℕ) (s : Text) → length (drop n s) ≤ length s
drops n s = omega (arith, length-drop n s)

one_shortens : (mark : ℕ) (s r : Text) → after_one mark s ≡ Some r → length r < length s
one_shortens mark [] r e = absurd cc
one_shortens mark (c ∷ s) r e = go (c == mark) e
  where
    go : (b : Bool) → cond b (Some s) None ≡ Some r → length r < length (c ∷ s)
    go true e = let same : s ≡ r = cc in omega (arith, ap length same)
    go false e = absurd cc

then_shortens : (f g : Text → Option Text) (s r : Text) → ((s r : Text) → f s ≡ Some r → length r < length s) → ((s r : Text) → g s ≡ Some r → length r < length s) → option_and_then g (f s) ≡ Some r → length r < length s
then_shortens f g s r hf hg e = go (f s) refl e
  where
    go : (o : Option Text) → f s ≡ o → option_and_then g o ≡ Some r → length r < length s
    go None h e = absurd cc
    go (Some m) h e = omega (arith, hf s m h, hg m r e)

two_shortens : (mark : ℕ) (s r : Text) → after_two mark s ≡ Some r → length r < length s
two_shortens mark s r e = then_shortens (after_one mark) (after_one mark) s r (one_shortens mark) (one_shortens mark) e

three_shortens : (mark : ℕ) (s r : Text) → after_three mark s ≡ Some r → length r < length s
three_shortens mark s r e = then_shortens (after_one mark) (after_two mark) s r (one_shortens mark) (two_shortens mark) e

closing_shortens : (q : Quotes) (s r : Text) → after_closing q s ≡ Some r → length r < length s
closing_shortens q s r e = go q.triple e
  where
    go : (b : Bool) → cond b (after_three q.mark s) (after_one q.mark s) ≡ Some r → length r < length s
    go true e = three_shortens q.mark s r e
    go false e = one_shortens q.mark s r e

parts_shorten : {q : Quotes} {s r : Text} {cs : List ℕ} → Parts q s r cs → length r < length s
parts_shorten {q = q} (closing {s = s} {r = r} e) = closing_shortens q s r e
parts_shorten (part n d rest) = omega (arith, part_shortens d, parts_shorten rest)

opening_shortens : (mark : ℕ) (s : Text) → length (opening mark s).rest ≤ length s
opening_shortens mark s = go (after_two mark s) refl
  where
    go : (o : Option Text) → after_two mark s ≡ o → length (opening_by mark s o).rest ≤ length s
    go None e = omega arith
    go (Some r) e = omega (arith, two_shortens mark s r e)

within : (spelling : List ℕ) (s r : Text) → after_spelling spelling s ≡ Some r → length r ≤ length s
within [] s r e = let same : s ≡ r = cc in omega (arith, ap length same)
within (c ∷ spelling) [] r e = absurd cc
within (c ∷ spelling) (d ∷ s) r e = go (d == c) e (within spelling s r)
  where
    go : (b : Bool) → cond b (after_spelling spelling s) None ≡ Some r → (after_spelling spelling s ≡ Some r → length r ≤ length s) → length r ≤ length (d ∷ s)
    go true e h = omega (arith, h e)
    go false e h = absurd cc

-- a spelling that isn't empty
spelling_shortens : (c : ℕ) (spelling : List ℕ) (s r : Text) → after_spelling (c ∷ spelling) s ≡ Some r → length r < length s
spelling_shortens c spelling [] r e = absurd cc
spelling_shortens c spelling (d ∷ s) r e = go (d == c) e
  where
    go : (b : Bool) → cond b (after_spelling spelling s) None ≡ Some r → length r < length (d ∷ s)
    go true e = omega (arith, within spelling s r e)
    go false e = absurd cc

abbrev NoneEmpty : List (List ℕ × Mark) → Type 0
NoneEmpty [] = Unit {0}
NoneEmpty (e ∷ es) = (0 < length e.0) × NoneEmpty es

first_shortens : (es : List (List ℕ × Mark)) (s : Text) (x : MarkAt) → NoneEmpty es → first_mark es s ≡ Some x → length x.rest < length s
first_shortens [] s x n e = absurd cc
first_shortens (entry ∷ es) s x n e = go entry.0 n.0 (after_spelling entry.0 s) refl e (first_shortens es s x n.1)
  where
    go : (spelling : List ℕ) → 0 < length spelling → (o : Option Text) → after_spelling spelling s ≡ o → mark_or entry.1 o (first_mark es s) ≡ Some x → (first_mark es s ≡ Some x → length x.rest < length s) → length x.rest < length s
    go spelling h None i e k = k e
    go [] h (Some r) i e k = absurd (omega arith)
    go (c ∷ spelling) h (Some r) i e k = let same : record { mark = entry.1; rest = r } ≡ x = cc in omega (arith, spelling_shortens c spelling s r i, ap (λ (x : MarkAt). length x.rest) same)

none_empty_test : (es : List (List ℕ × Mark)) → list_all (λ e. nat_lt 0 (length e.0)) es ≡ true → NoneEmpty es
none_empty_test [] h = tt
none_empty_test (e ∷ es) h = go (nat_lt 0 (length e.0)) (positive (length e.0)) h (none_empty_test es)
  where
    positive : (n : ℕ) → nat_lt 0 n ≡ true → 0 < n
    positive n h = grind arith

    go : (b : Bool) → (b ≡ true → 0 < length e.0) → (b && list_all (λ e. nat_lt 0 (length e.0)) es) ≡ true → (list_all (λ e. nat_lt 0 (length e.0)) es ≡ true → NoneEmpty es) → NoneEmpty (e ∷ es)
    go true f h k = (f refl, k h)
    go false f h k = absurd cc

none_empty : NoneEmpty marks
none_empty = none_empty_test marks refl

pub token_shortens : {s r : Text} {t : Token} → TokenAt s r t → length r < length s
token_shortens (a_name {s = s} e n q) = omega (arith, drops (prefix_len is_xid_continue s) s)
token_shortens (an_integer {s = s} e d) = omega (arith, drops (prefix_len in_number s) s)
token_shortens (a_string {c = c} {s = s} e d) = omega (arith, parts_shorten d, opening_shortens c s)
token_shortens (a_mark {c = c} {s = s} {x = x} e d) = first_shortens marks (c ∷ s) x none_empty d
