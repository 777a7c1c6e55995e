-- Lists that are cut at the first element that passes a test, and the lines of a text, cut at its first line feed.
use Rattle.std.proofs.Common.{◌≡◌, ℕ, ◌+◌, ◌<◌, ◌≤◌, ◌==◌, ◌≢◌, Bool, true, false, cond, not, suc, Some, None, List, [], ◌∷◌, length, take, drop, length-drop, nat_eq, refl, sym, ◌∙◌, ap, arith}
use Rattle.std.specs.List.{position_or_len, before_first, after_first, onto_first, position, starts_with}
use Rattle.std.proofs.lemmas.Bool.{eqb-false, ltb-true, ltb-false}
use Rattle.std.proofs.lemmas.List.{take_all, drop_all}
use Rattle.std.proofs.lemmas.List.Quantifiers.{position-Some}
use Rattle.py_lexer.specs.Lines.{lines, byte_order_mark, without_byte_order_mark}

-- a line feed
abbrev pub is_feed : ℕ → Bool
is_feed byte = byte == 10

-- one byte in front of lines that have such a first line
first_more : (b : Bool) (byte : ℕ) (bytes : List ℕ) (n : ℕ) (more : List (List ℕ)) → more ≡ take n bytes ∷ lines (drop (n + 1) bytes)
    → cond b ([] ∷ lines bytes) (onto_first byte more) ≡ take (cond (not b) (1 + n) 0) (byte ∷ bytes) ∷ lines (drop (cond (not b) (1 + n) 0 + 1) (byte ∷ bytes))
first_more true byte bytes n more e = refl
first_more false byte bytes n more e =
    let one : 1 + n ≡ suc n = omega arith in
    let two : 1 + n + 1 ≡ suc (n + 1) = omega arith in
    rw (two, one, e) refl

-- A text that isn't empty is its first line, and then the lines behind its first line feed.
pub lines_first : (text : List ℕ) → 0 < length text → lines text ≡ before_first is_feed text ∷ lines (after_first is_feed text)
lines_first [] h = absurd (omega (arith, h))
lines_first (byte ∷ []) h =
    elim (byte == 10) as (λ b. cond b ([] ∷ []) ((byte ∷ []) ∷ []) ≡ take (cond (not b) (1 + 0) 0) (byte ∷ []) ∷ lines (drop (cond (not b) (1 + 0) 0 + 1) (byte ∷ []))) [ true ↦ refl | false ↦ refl ]
lines_first (byte ∷ next ∷ bytes) h =
    first_more (byte == 10) byte (next ∷ bytes) (position_or_len is_feed (next ∷ bytes)) (lines (next ∷ bytes)) (lines_first (next ∷ bytes) (omega arith))

-- what a place says, by whether there is one
some_place : (b : Bool) (place n : ℕ) → Some n ≡ cond b (Some place) None → (b ≡ true) × (n ≡ place)
some_place true place n e = (refl, cc)
some_place false place n e = absurd cc

-- without a place the test fails
pub no_place : (b : Bool) (place : ℕ) → None ≡ cond b (Some place) None → b ≡ false
no_place true place e = absurd cc
no_place false place e = refl

-- A line feed ends the first line.
pub lines_cut : (text : List ℕ) (n : ℕ) → Some n ≡ position is_feed text → lines text ≡ take n text ∷ lines (drop (n + 1) text)
lines_cut text n e =
    let at = some_place _ (position_or_len is_feed text) n e in
    let within : position_or_len is_feed text < length text = ltb-true _ _ at.0 in
    rw at.1 (lines_first text (omega arith))

-- Without a line feed the text is one line.
pub lines_uncut : (text : List ℕ) → None ≡ position is_feed text → false ≡ (length text == 0) → lines text ≡ text ∷ []
lines_uncut text e some =
    let beyond : length text ≤ position_or_len is_feed text = ltb-false _ _ (no_place _ (position_or_len is_feed text) e) in
    let beyond_next : length text ≤ position_or_len is_feed text + 1 = omega arith in
    let present : length text ≢ 0 = eqb-false _ _ (sym some) in
    lines_first text (omega arith) ∙ cc (take_all _ text beyond, ap lines (drop_all _ text beyond_next))

-- what stands before the first element that passes, by its place
pub before_first_place : {X : Type 0} (p : X → Bool) (xs : List X) (n : ℕ) → Some n ≡ position p xs → take n xs ≡ before_first p xs
before_first_place p xs n e = rw (some_place _ (position_or_len p xs) n e).1 refl

-- without such an element all of the list stands before it
pub before_no_place : {X : Type 0} (p : X → Bool) (xs : List X) → None ≡ position p xs → xs ≡ before_first p xs
before_no_place p xs e = sym (take_all _ xs (ltb-false _ _ (no_place _ (position_or_len p xs) e)))

-- one more list at most
length-onto_first : {X : Type 0} (x : X) (parts : List (List X)) → length (onto_first x parts) ≤ suc (length parts)
length-onto_first x [] = omega arith
length-onto_first x (part ∷ parts) = omega arith

-- A text has no more lines than bytes.
pub length-lines : (text : List ℕ) → length (lines text) ≤ length text
length-lines [] = omega arith
length-lines (byte ∷ bytes) =
    let fewer : length (lines bytes) ≤ length bytes = length-lines bytes in
    elim (byte == 10) as (λ b. length (cond b ([] ∷ lines bytes) (onto_first byte (lines bytes))) ≤ suc (length bytes))
    [ true ↦ omega (arith, fewer) | false ↦ omega (arith, fewer, length-onto_first byte (lines bytes)) ]

-- A text gets no longer without its mark.
pub length-without_byte_order_mark : (text : List ℕ) → length (without_byte_order_mark text) ≤ length text
length-without_byte_order_mark text =
    elim (starts_with nat_eq text byte_order_mark) as (λ b. length (cond b (drop 3 text) text) ≤ length text)
    [ true ↦ omega (arith, length-drop 3 text) | false ↦ omega arith ]

-- The place of a line among the lines of a text is less than the text's length.
pub place_within : (test : List ℕ → Bool) (text : List ℕ) (place : ℕ) → Some place ≡ position test (lines (without_byte_order_mark text)) → place < length text
place_within test text place e =
    let within = (position-Some test (lines (without_byte_order_mark text)) place [] (sym e)).0 in
    omega (arith, within, length-lines (without_byte_order_mark text), length-without_byte_order_mark text)
