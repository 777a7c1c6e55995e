-- One class on, and at the end.
use Rattle.std.proofs.Common.{◌≡◌, ◌∙◌, ◌+◌, ◌++◌, drop, length, List, ap, refl, sym, subst, Some, ℕ, ◌≤◌}
use Rattle.std.specs.Prelude.{slice_get}
use Rattle.symbols.specs.declared.class.OwnClass.{OwnClass}
use Rattle.symbols.specs.ClassViews.{founds}
use Rattle.symbols.specs.Faults as spec
use Rattle.symbols.specs.SpecialNames.{at}
use Rattle.symbols.proofs.ClassNumbers.{at_item, bad_lines-at, lines_end, lines_step}
use Rattle.symbols.proofs.class_faults.bad_lines.Goals as goal

pub loop-class-preserved : goal.loop-class-preserved
loop-class-preserved c =
    let all = c.args.classes.now in
    let i = c.loop-class.class-index in
    let here : slice_get all.own i ≡ Some c.class-item.result = subst (λ (xs : List OwnClass). slice_get xs i ≡ Some c.class-item.result) c.as_slice-class-items.ensures (at_item c.as_slice-class-items.result.now i c.class-item.result c.loop-class-test.true c.class-item.is) in
    lines_step c.loop-class.lines c.put_line.new.lines _ (spec.bad_lines (drop (i + 1) (founds all))) _ (c.in_ok-put_line.ensures ∙ ap (λ b. c.loop-class.lines ++ at c.class-item.result.line b) c.is_bad.ensures)
    (ap (λ (xs : List ℕ). c.loop-class.lines ++ xs) (sym (bad_lines-at all i c.class-item.result here)) ∙ c.loop-class.invariant)

pub returns : goal.returns
returns c = lines_end c.args.classes.now c.loop-class.class-index spec.bad_lines c.loop-class.lines _ (subst (λ (xs : List OwnClass). length xs ≤ c.loop-class.class-index) c.as_slice-class-items.ensures c.loop-class-test.false) refl c.loop-class.invariant
