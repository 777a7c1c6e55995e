-- The number of a line is no greater than the number of bytes, and the first by the test is the first by the spelling.
use Rattle.std.proofs.Common.{arith, rules, ◌≡◌, ◌+◌, ◌∙◌, ap, Some, ℕ, List}
use Rattle.std.specs.List.{position}
use Rattle.py_lexer.specs.Lines.{lines}
use Rattle.py_lexer.specs.Marker.{is_marker_line, first_marker}
use Rattle.py_lexer.proofs.Cuts.{place_within}
use Rattle.py_lexer.proofs.FirstMarkers.{first_marker_is}
use Rattle.py_lexer.proofs.marker.marker_line.Goals as goal

pub overflow_cast-result : goal.overflow_cast-result
overflow_cast-result c =
    let at = c.in_ok-place.ensures ∙ ap (λ (text : List ℕ). position is_marker_line (lines text)) c.without_byte_order_mark.ensures in
    omega (arith, place_within is_marker_line c.args.text.now c.in_ok-place.place at)

pub overflow_add-result : goal.overflow_add-result
overflow_add-result c =
    let at = c.in_ok-place.ensures ∙ ap (λ (text : List ℕ). position is_marker_line (lines text)) c.without_byte_order_mark.ensures in
    omega (arith, place_within is_marker_line c.args.text.now c.in_ok-place.place at)

pub returns-in_err-place-clause-first : goal.returns-in_err-place-clause-first
returns-in_err-place-clause-first c =
    let exact : c.from_residual.result ≡ first_marker c.args.text.now = search rules in
    first_marker_is c.args.text.now c.from_residual.result exact

pub returns-clause-first : goal.returns-clause-first
returns-clause-first c =
    let exact : Some (c.in_ok-place.place + 1) ≡ first_marker c.args.text.now = search rules in
    first_marker_is c.args.text.now (Some (c.in_ok-place.place + 1)) exact
