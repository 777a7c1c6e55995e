-- A line is a marker line by the test exactly where it is spelled as one.
use Rattle.std.proofs.Common.{◌≡◌, ◌↔◌, ℕ, zero, suc, ◌+◌, ◌-◌, ◌<◌, ◌≤◌, ◌==◌, ◌&&◌, ◌||◌, ◌⊎◌, inl, inr, nat_eq, Bool, true, false, cond, not, List, [], ◌∷◌, ◌++◌, length, get_or, take, drop, replicate, codes, refl, sym, ◌∙◌, ap, arith, append_assoc, length-append}
use Rattle.std.specs.List.{before_first, prefix_len, starts_with, list_all, list_any}
use Rattle.std.specs.Str.Lines.{strip_carriage_return}
use Rattle.std.proofs.lemmas.Bool.{and_parts, and_from, eq-eqb, eqb-true}
use Rattle.std.proofs.lemmas.Bool.Decides.{Decides-eqb}
use Rattle.std.proofs.lemmas.List.{append-nil, take-append-drop, drop_more, take_at, drop_all}
use Rattle.std.proofs.lemmas.List.Folds.{list_all-append}
use Rattle.std.proofs.lemmas.Slice.Eq.{starts_is}
use Rattle.py_lexer.specs.Marker.{IsMarkerName, IsComment, IsLineEnd, IsMarkerLine, is_space, part_of, after_spaces, is_name_and_spaces, marker_names, is_marker_line}

-- the byte that begins a comment
abbrev is_hash : ℕ → Bool
is_hash byte = byte == 35

-- a byte that neither begins a comment nor is a carriage return
abbrev is_plain : ℕ → Bool
is_plain byte = not (byte == 35) && not (byte == 13)

-- what the test asks of the part of a line that counts
abbrev is_marker_part : List ℕ → Bool
is_marker_part part = starts_with nat_eq part (codes "import ") && list_any (is_name_and_spaces (after_spaces (drop 7 part))) marker_names

-- ---- lists

-- a test that is denied
false_from_not : (b : Bool) → not b ≡ true → b ≡ false
false_from_not true e = absurd cc
false_from_not false e = refl

-- one of two tests passed
either_of : (x y : Bool) → (x || (y || false)) ≡ true → (x ≡ true) ⊎ (y ≡ true)
either_of true y e = inl refl
either_of false true e = inr refl
either_of false false e = absurd cc

-- nothing stands before a `#` at the front
before_first-yes : (x : ℕ) (xs : List ℕ) → is_hash x ≡ true → before_first is_hash (x ∷ xs) ≡ []
before_first-yes x xs e = rw e refl

-- any other byte at the front stands before the first `#`
before_first-no : (x : ℕ) (xs : List ℕ) → is_hash x ≡ false → before_first is_hash (x ∷ xs) ≡ x ∷ before_first is_hash xs
before_first-no x xs e =
    let next : 1 + prefix_len (λ y. not (is_hash y)) xs ≡ suc (prefix_len (λ y. not (is_hash y)) xs) = omega arith in
    rw (e, next) refl

-- what one passes, all its copies pass
list_all-replicate : (p : ℕ → Bool) (n x : ℕ) → p x ≡ true → list_all p (replicate n x) ≡ true
list_all-replicate p zero x e = refl
list_all-replicate p (suc n) x e = and_from _ _ e (list_all-replicate p n x e)

-- ---- from the spelling to the test

-- plain bytes at the front stand before the first `#`
plain_start : (xs ys : List ℕ) → list_all is_plain xs ≡ true → before_first is_hash (xs ++ ys) ≡ xs ++ before_first is_hash ys
plain_start [] ys e = refl
plain_start (x ∷ xs) ys e =
    let parts = and_parts (is_plain x) (list_all is_plain xs) e in
    before_first-no x (xs ++ ys) (false_from_not _ (and_parts (not (x == 35)) (not (x == 13)) parts.0).0) ∙ ap (λ (more : List ℕ). x ∷ more) (plain_start xs ys parts.1)

-- nothing stands before a comment
nothing_before_comment : (bytes : List ℕ) → IsComment bytes → before_first is_hash bytes ≡ []
nothing_before_comment [] c = refl
nothing_before_comment (byte ∷ bytes) c = before_first-yes byte bytes (eq-eqb byte 35 c)

-- no plain byte is a carriage return, and neither is what a read past the end gives
plain_at : (xs : List ℕ) (k : ℕ) → list_all is_plain xs ≡ true → (get_or xs k 0 == 13) ≡ false
plain_at [] k e = refl
plain_at (x ∷ xs) zero e = false_from_not _ (and_parts (not (x == 35)) (not (x == 13)) (and_parts (is_plain x) (list_all is_plain xs) e).0).1
plain_at (x ∷ xs) (suc k) e = plain_at xs k (and_parts (is_plain x) (list_all is_plain xs) e).1

-- plain bytes keep their end
strip_plain : (xs : List ℕ) → list_all is_plain xs ≡ true → strip_carriage_return xs ≡ xs
strip_plain xs e = rw (plain_at xs (length xs - 1) e) refl

-- the last byte is where it was put
get_or-last : (xs : List ℕ) (x : ℕ) → get_or (xs ++ x ∷ []) (length xs) 0 ≡ x
get_or-last [] x = refl
get_or-last (y ∷ xs) x = get_or-last xs x

-- one carriage return at the end is stripped
strip_return : (xs : List ℕ) → strip_carriage_return (xs ++ 13 ∷ []) ≡ xs
strip_return xs =
    let last : length (xs ++ 13 ∷ []) - 1 ≡ length xs = omega (arith, length-append xs (13 ∷ [])) in
    rw (last, get_or-last xs 13) (take_at xs (13 ∷ []) (length xs) refl)

-- of plain bytes and the end of a line, the plain bytes count
part_of_spelled : (front end : List ℕ) → list_all is_plain front ≡ true → IsLineEnd end → part_of (front ++ end) ≡ front
part_of_spelled front end plain (inl c) =
    let cut = plain_start front end plain ∙ ap (λ (more : List ℕ). front ++ more) (nothing_before_comment end c) ∙ append-nil front in
    ap strip_carriage_return cut ∙ strip_plain front plain
part_of_spelled front end plain (inr c) =
    let more = before_first-no 13 c.0 refl ∙ ap (λ (more : List ℕ). 13 ∷ more) (nothing_before_comment c.0 c.1) in
    let cut = plain_start front end plain ∙ ap (λ (more : List ℕ). front ++ before_first is_hash more) c.2 ∙ ap (λ (more : List ℕ). front ++ more) more in
    ap strip_carriage_return cut ∙ strip_return front

-- spaces at the front are passed over
after_spaces-replicate : (n : ℕ) (xs : List ℕ) → after_spaces (replicate n 32 ++ xs) ≡ after_spaces xs
after_spaces-replicate zero xs = refl
after_spaces-replicate (suc n) xs =
    let next : 1 + prefix_len is_space (replicate n 32 ++ xs) ≡ suc (prefix_len is_space (replicate n 32 ++ xs)) = omega arith in
    rw next (after_spaces-replicate n xs)

-- ---- from the test to the spelling

-- one more byte in front of a line and its comment
line_cut_at : (b : Bool) (byte : ℕ) (bytes : List ℕ) → is_hash byte ≡ b → (comment : List ℕ) × IsComment comment × (bytes ≡ before_first is_hash bytes ++ comment)
    → (comment : List ℕ) × IsComment comment × (byte ∷ bytes ≡ before_first is_hash (byte ∷ bytes) ++ comment)
line_cut_at true byte bytes e more = (byte ∷ bytes, eqb-true byte 35 e, sym (ap (λ (front : List ℕ). front ++ byte ∷ bytes) (before_first-yes byte bytes e)))
line_cut_at false byte bytes e more = (more.0, more.1, ap (λ (rest : List ℕ). byte ∷ rest) more.2 ∙ sym (ap (λ (front : List ℕ). front ++ more.0) (before_first-no byte bytes e)))

-- a line is what stands before its comment, and then the comment
line_cut : (line : List ℕ) → (comment : List ℕ) × IsComment comment × (line ≡ before_first is_hash line ++ comment)
line_cut [] = ([], tt, refl)
line_cut (byte ∷ bytes) = line_cut_at (is_hash byte) byte bytes refl (line_cut bytes)

-- bytes that end with a carriage return
ends_with_return : (xs : List ℕ) → (get_or xs (length xs - 1) 0 == 13) ≡ true → xs ≡ take (length xs - 1) xs ++ 13 ∷ []
ends_with_return [] e = absurd cc
ends_with_return (x ∷ xs) e =
    let bytes : List ℕ = x ∷ xs in
    let last : length bytes - 1 < length bytes = omega arith in
    let past : length bytes ≤ length bytes - 1 + 1 = omega arith in
    sym (take-append-drop (length bytes - 1) bytes)
    ∙ ap (λ (end : List ℕ). take (length bytes - 1) bytes ++ end) (drop_more bytes (length bytes - 1) 0 last ∙ cc (eqb-true _ 13 e, drop_all (length bytes - 1 + 1) bytes past))

-- what is cut off as a carriage return
stripped_at : (b : Bool) (xs : List ℕ) → (get_or xs (length xs - 1) 0 == 13) ≡ b → (end : List ℕ) × ((end ≡ []) ⊎ (end ≡ 13 ∷ [])) × (xs ≡ cond b (take (length xs - 1) xs) xs ++ end)
stripped_at true xs e = (13 ∷ [], inr refl, ends_with_return xs e)
stripped_at false xs e = ([], inl refl, sym (append-nil xs))

-- a carriage return or none, and then a comment, end a line
line_end : (end comment : List ℕ) → IsComment comment → (end ≡ []) ⊎ (end ≡ 13 ∷ []) → IsLineEnd (end ++ comment)
line_end end comment c (inl e) = rw e (inl c)
line_end end comment c (inr e) = inr (comment, c, ap (λ (front : List ℕ). front ++ comment) e)

-- a line is the part of it that counts, and then the end of a line
line_parts : (line : List ℕ) → (end : List ℕ) × IsLineEnd end × (line ≡ part_of line ++ end)
line_parts line =
    let cut = line_cut line in
    let stripped = stripped_at (get_or (before_first is_hash line) (length (before_first is_hash line) - 1) 0 == 13) (before_first is_hash line) refl in
    (stripped.0 ++ cut.0, line_end stripped.0 cut.0 cut.1 stripped.1, cut.2 ∙ ap (λ (front : List ℕ). front ++ cut.0) stripped.2 ∙ append_assoc (part_of line) stripped.0 cut.0)

-- one more byte in front of spaces that were counted
spaces_at : (b : Bool) (byte : ℕ) (bytes : List ℕ) (n : ℕ) → is_space byte ≡ b → bytes ≡ replicate n 32 ++ drop n bytes → byte ∷ bytes ≡ replicate (cond b (1 + n) 0) 32 ++ drop (cond b (1 + n) 0) (byte ∷ bytes)
spaces_at true byte bytes n e more =
    let next : 1 + n ≡ suc n = omega arith in
    rw next (cc (eqb-true byte 32 e, more))
spaces_at false byte bytes n e more = refl

-- bytes are the spaces at their front, and what follows
spaces_in_front : (bytes : List ℕ) → bytes ≡ replicate (prefix_len is_space bytes) 32 ++ after_spaces bytes
spaces_in_front [] = refl
spaces_in_front (byte ∷ bytes) = spaces_at (is_space byte) byte bytes (prefix_len is_space bytes) refl (spaces_in_front bytes)

-- bytes that are all spaces
only_spaces : (bytes : List ℕ) → list_all is_space bytes ≡ true → bytes ≡ replicate (length bytes) 32
only_spaces [] e = refl
only_spaces (byte ∷ bytes) e =
    let parts = and_parts (is_space byte) (list_all is_space bytes) e in
    cc (eqb-true byte 32 parts.0, only_spaces bytes parts.1)

-- bytes that the test takes for the name and spaces are that
name_then_spaces : (bytes name : List ℕ) → is_name_and_spaces bytes name ≡ true → bytes ≡ name ++ replicate (length (drop (length name) bytes)) 32
name_then_spaces bytes name e =
    let parts = and_parts (starts_with nat_eq bytes name) _ e in
    (starts_is Decides-eqb bytes name (starts_with nat_eq bytes name) refl).0 parts.0 ∙ ap (λ (rest : List ℕ). name ++ rest) (only_spaces (drop (length name) bytes) parts.1)

-- the name and the spaces behind it
record Named (bytes : List ℕ) : Type 0 where
  name : List ℕ
  blanks : ℕ
  is_name : IsMarkerName name
  are : bytes ≡ name ++ replicate blanks 32

-- where the test takes one of the names
named : (bytes : List ℕ) → list_any (is_name_and_spaces bytes) marker_names ≡ true → Named bytes
named bytes e =
    elim (either_of (is_name_and_spaces bytes (codes "__strict__")) (is_name_and_spaces bytes (codes "__static__")) e) [
      | inl h ↦ record { name = codes "__strict__"; blanks = _; is_name = inl refl; are = name_then_spaces bytes (codes "__strict__") h }
      | inr h ↦ record { name = codes "__static__"; blanks = _; is_name = inr refl; are = name_then_spaces bytes (codes "__static__") h }
    ]

-- what a marker line is in front of its end
abbrev spelled_front : ℕ → List ℕ → ℕ → List ℕ
spelled_front gap name blanks = codes "import" ++ replicate (suc gap) 32 ++ name ++ replicate blanks 32

-- a marker's name is plain
plain_name : (name : List ℕ) → IsMarkerName name → list_all is_plain name ≡ true
plain_name name (inl e) = rw e refl
plain_name name (inr e) = rw e refl

-- a marker line is plain in front of its end
front_is_plain : (gap blanks : ℕ) (name : List ℕ) → IsMarkerName name → list_all is_plain (spelled_front gap name blanks) ≡ true
front_is_plain gap blanks name is_name =
    rw (list_all-append is_plain (replicate gap 32 ++ name) (replicate blanks 32), list_all-append is_plain (replicate gap 32) name)
    (and_from _ _ (and_from _ _ (list_all-replicate is_plain gap 32 refl) (plain_name name is_name)) (list_all-replicate is_plain blanks 32 refl))

-- a marker's name begins with no space
no_space_in_front : (name rest : List ℕ) → IsMarkerName name → after_spaces (name ++ rest) ≡ name ++ rest
no_space_in_front name rest (inl e) = rw e refl
no_space_in_front name rest (inr e) = rw e refl

-- a marker's name with spaces behind it passes
name_passes : (name : List ℕ) (blanks : ℕ) → IsMarkerName name → list_any (is_name_and_spaces (name ++ replicate blanks 32)) marker_names ≡ true
name_passes name blanks (inl e) = rw (e, list_all-replicate is_space blanks 32 refl) refl
name_passes name blanks (inr e) = rw (e, list_all-replicate is_space blanks 32 refl) refl

-- a marker line passes in front of its end
front_passes : (gap blanks : ℕ) (name : List ℕ) → IsMarkerName name → is_marker_part (spelled_front gap name blanks) ≡ true
front_passes gap blanks name is_name =
    let after = ap after_spaces (append_assoc (replicate gap 32) name (replicate blanks 32)) ∙ after_spaces-replicate gap (name ++ replicate blanks 32) ∙ no_space_in_front name (replicate blanks 32) is_name in
    ap (λ (bytes : List ℕ). list_any (is_name_and_spaces bytes) marker_names) after ∙ name_passes name blanks is_name

-- what passes is spelled as a marker line in front of its end
spells_front : (part : List ℕ) → is_marker_part part ≡ true → (gap : ℕ) × (n : Named (after_spaces (drop 7 part))) × (part ≡ spelled_front gap n.name n.blanks)
spells_front part e =
    let parts = and_parts (starts_with nat_eq part (codes "import ")) _ e in
    let n = named (after_spaces (drop 7 part)) parts.1 in
    let gap = prefix_len is_space (drop 7 part) in
    let imported = spaces_in_front (drop 7 part) ∙ ap (λ (rest : List ℕ). replicate gap 32 ++ rest) n.are ∙ sym (append_assoc (replicate gap 32) n.name (replicate n.blanks 32)) in
    (gap, n, (starts_is Decides-eqb part (codes "import ") (starts_with nat_eq part (codes "import ")) refl).0 parts.0 ∙ ap (λ (rest : List ℕ). codes "import " ++ rest) imported)

-- A line passes the test exactly where it is spelled as a marker line.
pub marker_line_spelled : (line : List ℕ) → (is_marker_line line ≡ true) ↔ IsMarkerLine line
marker_line_spelled line = (
  λ e.
      let end = line_parts line in
      let front = spells_front (part_of line) e in
      record {
        gap = front.0;
        name = front.1.name;
        blanks = front.1.blanks;
        end = end.0;
        is_name = front.1.is_name;
        is_end = end.1;
        spelled = end.2 ∙ ap (λ (part : List ℕ). part ++ end.0) front.2;
      },
  λ m.
      let part = ap part_of m.spelled ∙ part_of_spelled (spelled_front m.gap m.name m.blanks) m.end (front_is_plain m.gap m.blanks m.name m.is_name) m.is_end in
      ap is_marker_part part ∙ front_passes m.gap m.blanks m.name m.is_name,
)
