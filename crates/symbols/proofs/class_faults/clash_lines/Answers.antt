-- One class on, and at the end.
use Rattle.std.proofs.Common.{◌≡◌, ◌∙◌, ◌+◌, ◌<◌, ◌≤◌, ◌++◌, drop, length, List, ℕ, Some, ap, refl, sym, subst}
use Rattle.std.specs.Prelude.{slice_get}
use Rattle.std.proofs.lemmas.Option.{get_or_from_slice_get}
use Rattle.symbols.specs.declared.class.BasePlace.TheVariants.{Earlier}
use Rattle.symbols.specs.declared.class.OwnClass.{OwnClass}
use Rattle.symbols.specs.ClassViews.{founds}
use Rattle.symbols.specs.Faults as spec
use Rattle.symbols.specs.Lineages.{clash_at}
use Rattle.symbols.specs.SpecialNames.{at}
use Rattle.symbols.proofs.ClassNumbers.{at_item, clash_lines-at, lines_end, lines_step}
use Rattle.symbols.proofs.class_faults.clash_lines.Goals as goal

pub loop-number-preserved : goal.loop-number-preserved
loop-number-preserved c =
    let all = c.args.classes.now in
    let i = c.loop-number.number in
    let here : slice_get all.own i ≡ Some c.class-item.result = subst (λ (xs : List OwnClass). slice_get xs i ≡ Some c.class-item.result) c.as_slice-class-items.ensures (at_item c.as_slice-class-items.result.now i c.class-item.result c.loop-number-test.true c.class-item.is) in
    let within : i < length all.own = subst (λ (xs : List OwnClass). i < length xs) c.as_slice-class-items.ensures c.loop-number-test.true in
    let flag : c.index.result.now ≡ clash_at all (Earlier i) = c.index.ensures ∙ get_or_from_slice_get c.in_ok-flags.flags.items i (clash_at all (Earlier i)) c.index.result.now (c.in_ok-flags.ensures.each i within) in
    lines_step c.loop-number.lines c.put_line.new.lines _ (spec.clash_lines (drop (i + 1) (founds all))) _ (c.in_ok-put_line.ensures ∙ ap (λ b. c.loop-number.lines ++ at c.class-item.result.line b) flag)
    (ap (λ (xs : List ℕ). c.loop-number.lines ++ xs) (sym (clash_lines-at all i c.class-item.result here)) ∙ c.loop-number.invariant)

pub returns : goal.returns
returns c = lines_end c.args.classes.now c.loop-number.number spec.clash_lines c.loop-number.lines _ (subst (λ (xs : List OwnClass). length xs ≤ c.loop-number.number) c.as_slice-class-items.ensures c.loop-number-test.false) refl c.loop-number.invariant
