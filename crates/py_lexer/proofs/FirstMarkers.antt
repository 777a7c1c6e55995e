-- The answer by the test is a first marker by the spelling, and a text has no other.
use Rattle.std.proofs.Common.{◌≡◌, ℕ, ◌+◌, ◌-◌, ◌<◌, false, Option, Some, None, option_map, List, [], get_or, refl, sym, ◌∙◌, ap, subst, arith}
use Rattle.std.specs.List.{position, position_or_len}
use Rattle.std.proofs.lemmas.Bool.{ltb-false}
use Rattle.std.proofs.lemmas.List.Quantifiers.{position-Some}
use Rattle.std.proofs.lemmas.List.Sums.{fails_before_first}
use Rattle.std.proofs.lemmas.Option.{slice_get-get_or, slice_get_within, get_or_from_slice_get}
use Rattle.py_lexer.specs.Lines.{lines, without_byte_order_mark}
use Rattle.py_lexer.specs.Marker.{IsMarkerLine, IsFirstMarker, is_marker_line, first_marker}
use Rattle.py_lexer.proofs.Cuts.{no_place}
use Rattle.py_lexer.proofs.Spelling.{marker_line_spelled}

-- the lines that count
abbrev lines_of : List ℕ → List (List ℕ)
lines_of text = lines (without_byte_order_mark text)

-- a line that the test refuses is no marker line
refused : (line : List ℕ) → is_marker_line line ≡ false → ¬ (IsMarkerLine line)
refused line fails marker = cc (fails, (marker_line_spelled line).1 marker)

-- where no place passes, no line does
none_passes : (text : List ℕ) → None ≡ position is_marker_line (lines_of text) → IsFirstMarker text None
none_passes text e n line is_line =
    let at = is_line.1 in
    let beyond = ltb-false _ _ (no_place _ (position_or_len is_marker_line (lines_of text)) e) in
    let within = slice_get_within (lines_of text) (n - 1) line at in
    refused line (ap is_marker_line (sym (get_or_from_slice_get (lines_of text) (n - 1) line [] at)) ∙ fails_before_first is_marker_line (lines_of text) (n - 1) [] (omega (arith, beyond, within)))

-- where a place passes first, its line is the first marker
some_passes : (text : List ℕ) (place : ℕ) → Some place ≡ position is_marker_line (lines_of text) → IsFirstMarker text (Some (place + 1))
some_passes text place e =
    let found = position-Some is_marker_line (lines_of text) place [] (sym e) in
    let line = get_or (lines_of text) place [] in
    let back : place + 1 - 1 ≡ place = omega arith in (
      (line, (omega arith, rw back (slice_get-get_or (lines_of text) place [] found.0)), (marker_line_spelled line).0 found.1),
      λ k other less is_line. refused other (ap is_marker_line (sym (get_or_from_slice_get (lines_of text) (k - 1) other [] is_line.1)) ∙ found.2 (k - 1) (omega (arith, is_line.0))),
    )

-- the number that follows the place is the first marker's
first_by_test : (text : List ℕ) (r : Option ℕ) → r ≡ position is_marker_line (lines_of text) → IsFirstMarker text (option_map (λ place. place + 1) r)
first_by_test text None e = none_passes text e
first_by_test text (Some place) e = some_passes text place e

-- The answer by the test is the first marker.
pub first_marker_is : (text : List ℕ) (r : Option ℕ) → r ≡ first_marker text → IsFirstMarker text r
first_marker_is text r e = subst (IsFirstMarker text) (sym e) (first_by_test text _ refl)

-- Two first markers of one text are one.
pub same_first_marker : (text : List ℕ) (one other : Option ℕ) → IsFirstMarker text one → IsFirstMarker text other → one ≡ other
same_first_marker text None None a b = refl
same_first_marker text None (Some n) a b = absurd (a n b.0.0 b.0.1 b.0.2)
same_first_marker text (Some n) None a b = absurd (b n a.0.0 a.0.1 a.0.2)
same_first_marker text (Some n) (Some m) a b =
    let not_later : n < m → ⊥ = λ less. b.1 n a.0.0 less a.0.1 a.0.2 in
    let not_earlier : m < n → ⊥ = λ less. a.1 m b.0.0 less b.0.1 b.0.2 in
    let same : n ≡ m = omega arith in
    ap (λ (k : ℕ). Some k) same
