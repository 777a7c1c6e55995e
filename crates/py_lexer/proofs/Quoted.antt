-- What stands between quotes, part by part.
use Rattle.std.proofs.Common.{◌≡◌, ℕ, ◌≤◌, ◌<◌, Bool, true, false, cond, List, [], ◌∷◌, ◌++◌, take, drop, length, Option, Some, None, refl, sym, ap, subst, ◌∙◌, arith}
use Rattle.std.specs.Prelude.{◌==◌, ◌&&◌, nat_le}
use Rattle.std.specs.Option.{option_map}
use Rattle.std.specs.List.{list_all}
use Rattle.std.proofs.Math.Utf8.{scalar}
use Rattle.std.proofs.lemmas.Bool.{le-leb, leb-true}
use Rattle.std.proofs.lemmas.List.{append_assoc, append-nil, length-drop}
use Rattle.py_lexer.specs.declared.character.CharKind.{CharKind}
use Rattle.py_lexer.specs.declared.character.CharKind.TheVariants as kind
use Rattle.py_lexer.specs.declared.escape.Escape.{Escape}
use Rattle.py_lexer.specs.declared.escape.Escape.TheVariants as escape
use Rattle.py_lexer.specs.declared.string_literal.Quotes.{Quotes}
use Rattle.py_lexer.specs.Characters.{Text, kind_of, after_line_end, after_line_feed}
use Rattle.py_lexer.specs.Strings.{escape_of, octal_digits, octal_value, hexadecimal_value, is_hexadecimal, EscapeAt, joins, a_character, an_octal, a_code_point, after_closing, is_plain, PartAt, plain, escaped, line_end, onto, Parts, closing, part}
use Rattle.py_lexer.specs.Reading.{Part, nothing, a_line_feed, hexadecimal_in, escape_by, escape_in, line_end_in, part_by, part_in}

abbrev pub a_part : Option ℕ → Text → Part
a_part v r = record { character = v; rest = r }

-- ---- an escape that stands is read

hexadecimal_is : (n : ℕ) (s : Text) → nat_le n (length s) ≡ true → list_all is_hexadecimal (take n s) ≡ true → scalar (hexadecimal_value n s) ≡ true → hexadecimal_in n s ≡ Some (a_part (Some (hexadecimal_value n s)) (drop n s))
hexadecimal_is n s h d i = go (nat_le n (length s)) (list_all is_hexadecimal (take n s)) (scalar (hexadecimal_value n s)) h d i
  where
    go : (a b d : Bool) → a ≡ true → b ≡ true → d ≡ true → cond (a && (b && d)) (Some (a_part (Some (hexadecimal_value n s)) (drop n s))) None ≡ Some (a_part (Some (hexadecimal_value n s)) (drop n s))
    go a b d x y z = rw (x, y, z) refl

line_end_is : (q : Quotes) (s r : Text) → q.triple ≡ true → after_line_end s ≡ Some r → line_end_in q s ≡ Some (a_part (Some 10) r)
line_end_is q s r t h = ap (λ b. cond b (option_map a_line_feed (after_line_end s)) None) t ∙ ap (option_map a_line_feed) h

pub escape_is : {s r : Text} {v : Option ℕ} → EscapeAt s r v → escape_in s ≡ Some (a_part v r)
escape_is (joins {c = c} {s = s} e h) = ap (λ k. escape_by k c s) e ∙ ap (option_map nothing) h
escape_is (a_character {c = c} {s = s} e) = ap (λ k. escape_by k c s) e
escape_is (an_octal {c = c} {s = s} e h) = ap (λ k. escape_by k c s) e ∙ ap (λ b. cond b (Some (a_part (Some (octal_value (c ∷ s))) (drop (octal_digits (c ∷ s)) (c ∷ s)))) None) (le-leb (octal_value (c ∷ s)) 255 h)
escape_is (a_code_point {c = c} {n = n} {s = s} e h d i) = ap (λ k. escape_by k c s) e ∙ hexadecimal_is n s (le-leb n (length s) h) d i

pub part_is : {q : Quotes} {s r : Text} {v : Option ℕ} → PartAt q s r v → part_in q s ≡ Some (a_part v r)
part_is {q = q} (plain {c = c} {s = s} e) = go (kind_of c) e
  where
    go : (k : CharKind) → is_plain k ≡ true → part_by k q c s ≡ Some (a_part (Some c) s)
    go kind.LineEnd h = absurd cc
    go kind.Backslash h = absurd cc
    go kind.Blank h = refl
    go kind.Hash h = refl
    go (kind.Token k) h = refl
part_is {q = q} (escaped {c = c} {s = s} e d) = ap (λ k. part_by k q c s) e ∙ escape_is d
part_is {q = q} (line_end {c = c} {s = s} {r = r} e t h) = ap (λ k. part_by k q c s) e ∙ line_end_is q (c ∷ s) r t h

-- ---- what is read stands

abbrev IsEscape : Text → Option Part → Type 0
IsEscape s None = Unit {0}
IsEscape s (Some x) = EscapeAt s x.rest x.character

abbrev IsPart : Quotes → Text → Option Part → Type 0
IsPart q s None = Unit {0}
IsPart q s (Some x) = PartAt q s x.rest x.character

right_escape : (k : Escape) (c : ℕ) (s : Text) → escape_of c ≡ k → IsEscape (c ∷ s) (escape_by k c s)
right_escape escape.LineEnd c s e = go (after_line_end (c ∷ s)) refl
  where
    go : (o : Option Text) → after_line_end (c ∷ s) ≡ o → IsEscape (c ∷ s) (option_map nothing o)
    go None h = tt
    go (Some r) h = joins e h
right_escape (escape.Character d) c s e = a_character e
right_escape escape.Octal c s e = go (nat_le (octal_value (c ∷ s)) 255) (leb-true _ _)
  where
    go : (b : Bool) → (b ≡ true → octal_value (c ∷ s) ≤ 255) → IsEscape (c ∷ s) (cond b (Some (a_part (Some (octal_value (c ∷ s))) (drop (octal_digits (c ∷ s)) (c ∷ s)))) None)
    go true h = an_octal e (h refl)
    go false h = tt
right_escape (escape.Hexadecimal n) c s e = go (nat_le n (length s)) (leb-true _ _) (list_all is_hexadecimal (take n s)) refl (scalar (hexadecimal_value n s)) refl
  where
    go : (a : Bool) → (a ≡ true → n ≤ length s) → (b : Bool) → list_all is_hexadecimal (take n s) ≡ b → (d : Bool) → scalar (hexadecimal_value n s) ≡ d
        → IsEscape (c ∷ s) (cond (a && (b && d)) (Some (a_part (Some (hexadecimal_value n s)) (drop n s))) None)
    go true h true i true j = a_code_point e (h refl) i j
    go true h true i false j = tt
    go true h false i d j = tt
    go false h b i d j = tt
right_escape escape.Unknown c s e = tt

right_escape_in : (s : Text) → IsEscape s (escape_in s)
right_escape_in [] = tt
right_escape_in (c ∷ s) = right_escape (escape_of c) c s refl

right_part : (q : Quotes) (k : CharKind) (c : ℕ) (s : Text) → kind_of c ≡ k → IsPart q (c ∷ s) (part_by k q c s)
right_part q kind.LineEnd c s e = go q.triple refl (after_line_end (c ∷ s)) refl
  where
    go : (b : Bool) → q.triple ≡ b → (o : Option Text) → after_line_end (c ∷ s) ≡ o → IsPart q (c ∷ s) (cond b (option_map a_line_feed o) None)
    go true h None i = tt
    go true h (Some r) i = line_end e h i
    go false h o i = tt
right_part q kind.Backslash c s e = go (escape_in s) (right_escape_in s)
  where
    go : (o : Option Part) → IsEscape s o → IsPart q (c ∷ s) o
    go None h = tt
    go (Some x) h = escaped e h
right_part q kind.Blank c s e = plain (ap is_plain e)
right_part q kind.Hash c s e = plain (ap is_plain e)
right_part q (kind.Token k) c s e = plain (ap is_plain e)

right_part_in : (q : Quotes) (s : Text) → IsPart q s (part_in q s)
right_part_in q [] = tt
right_part_in q (c ∷ s) = right_part q (kind_of c) c s refl

pub part_stands : (q : Quotes) (s : Text) (x : Part) → part_in q s ≡ Some x → PartAt q s x.rest x.character
part_stands q s x e = subst (IsPart q s) e (right_part_in q s)

-- ---- a part isn't empty

line_feed_shortens : (s r : Text) → after_line_feed s ≡ Some r → length r < length s
line_feed_shortens [] r e = absurd cc
line_feed_shortens (c ∷ s) r e = go (c == 10) e
  where
    go : (b : Bool) → cond b (Some s) None ≡ Some r → length r < length (c ∷ s)
    go true e = let same : s ≡ r = cc in omega (arith, ap length same)
    go false e = absurd cc

pub line_end_shortens : (s r : Text) → after_line_end s ≡ Some r → length r < length s
line_end_shortens [] r e = absurd cc
line_end_shortens (c ∷ s) r e = go (c == 13) e
  where
    go : (b : Bool) → cond b (after_line_feed s) (after_line_feed (c ∷ s)) ≡ Some r → length r < length (c ∷ s)
    go true e = omega (arith, line_feed_shortens s r e)
    go false e = line_feed_shortens (c ∷ s) r e

drops : (n : ℕ) (s : Text) → length (drop n s) ≤ length s
drops n s = omega (arith, length-drop n s)

escape_shortens : {s r : Text} {v : Option ℕ} → EscapeAt s r v → length r ≤ length s
escape_shortens (joins {c = c} {s = s} {r = r} e h) = omega (arith, line_end_shortens (c ∷ s) r h)
escape_shortens (a_character e) = omega arith
escape_shortens (an_octal {c = c} {s = s} e h) = drops (octal_digits (c ∷ s)) (c ∷ s)
escape_shortens (a_code_point {n = n} {s = s} e h d i) = omega (arith, drops n s)

pub part_shortens : {q : Quotes} {s r : Text} {v : Option ℕ} → PartAt q s r v → length r < length s
part_shortens (plain e) = omega arith
part_shortens (escaped e d) = omega (arith, escape_shortens d)
part_shortens (line_end {c = c} {s = s} {r = r} e t h) = line_end_shortens (c ∷ s) r h

-- ---- the whole

onto_append : (v : Option ℕ) (cs more : List ℕ) → cs ++ onto v more ≡ (cs ++ onto v []) ++ more
onto_append None cs more = ap (λ x. x ++ more) (sym (append-nil cs))
onto_append (Some c) cs more = sym (append_assoc cs (c ∷ []) more)

-- what has been read, with what stands from here on, is what stands there, and nothing else is
pub record ReadSoFar (q : Quotes) (text : Text) (cs : List ℕ) (s : Text) : Type 0 where
  pub found : (r : Text) (more : List ℕ) → Parts q s r more → Parts q text r (cs ++ more)
  pub only : (r : Text) (all : List ℕ) → Parts q text r all → (more : List ℕ) × Parts q s r more

pub begins : (q : Quotes) (text : Text) → ReadSoFar q text [] text
begins q text = record { found = λ r more d. d; only = λ r all d. (all, d) }

pub same_part : {x y : Part} → {o : Option Part} → o ≡ Some x → o ≡ Some y → x ≡ y
same_part a b = cc

behind_part : {q : Quotes} {s r : Text} {cs : List ℕ} (x : Part) → after_closing q s ≡ None → part_in q s ≡ Some x → Parts q s r cs → (more : List ℕ) × Parts q x.rest r more
behind_part x none e (closing h) = absurd cc
behind_part {q = q} {r = r} x none e (part {cs = cs} none' d rest) = (cs, subst (λ (y : Part). Parts q y.rest r cs) (same_part (part_is d) e) rest)

pub more : (q : Quotes) (text : Text) (cs : List ℕ) (s : Text) (x : Part) → ReadSoFar q text cs s → after_closing q s ≡ None → part_in q s ≡ Some x → ReadSoFar q text (cs ++ onto x.character []) x.rest
more q text cs s x so none e =
    record {
      found = λ r more d. let y = so.found r (onto x.character more) (part none (part_stands q s x e) d) in subst (Parts q text r) (onto_append x.character cs more) y;
      only = λ r all d. let y = so.only r all d in behind_part x none e y.1;
    }

pub less : (q : Quotes) (s : Text) (x : Part) → part_in q s ≡ Some x → length x.rest < length s
less q s x e = part_shortens (part_stands q s x e)

pub closes : (q : Quotes) (text : Text) (cs : List ℕ) (s r : Text) → ReadSoFar q text cs s → after_closing q s ≡ Some r → Parts q text r cs
closes q text cs s r so e = subst (Parts q text r) (append-nil cs) (so.found r [] (closing e))

no_part : {q : Quotes} {s r : Text} {cs : List ℕ} → after_closing q s ≡ None → part_in q s ≡ None → Parts q s r cs → ⊥
no_part none e (closing h) = absurd cc
no_part none e (part none' d rest) = let x = part_is d in absurd cc

pub stops : (q : Quotes) (text : Text) (cs : List ℕ) (s : Text) → ReadSoFar q text cs s → after_closing q s ≡ None → part_in q s ≡ None → (r : Text) (all : List ℕ) → Parts q text r all → ⊥
stops q text cs s so none e r all d = let y = so.only r all d in no_part none e y.1
