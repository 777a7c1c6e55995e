-- The names of the class are counted, and it clashes where the counts say so.
use Rattle.std.proofs.Common.{◌∙◌, ◌+◌, ◌||◌, ap, sym, subst, nat_lt}
use Rattle.std.specs.List.{list_any}
use Rattle.py_tree.specs.Syntax.{Text}
use Rattle.symbols.specs.Lineages.{Knows, last_clashes, methods_at, slots_at}
use Rattle.symbols.specs.Tallies.{count, times}
use Rattle.symbols.proofs.Descents.{clash-entered, count-entered, descends-entered, knows-push, last-entered}
use Rattle.symbols.proofs.lineage.Lineage.enter.Goals as goal

pub returns-clause-clashes : goal.returns-clause-clashes
returns-clause-clashes c =
    let all = c.args.self.now.classes.now in
    let steps = c.args.self.now.steps.items in
    let held = c.requires.at.lineage in
    let first = c.any_in.ensures ∙ ap (list_any (λ (name : Text). nat_lt 0 (count c.add-2.new.self name))) c.slots_at-slots.ensures in
    let second = c.any_in-2.ensures ∙ ap (list_any (λ (name : Text). nat_lt 0 (count c.add.new.self name))) c.methods_at-methods.ensures in
    c.clashes_below-clashes.ensures
    ∙ ((λ i. (last_clashes (c.as_slice.ensures.value i) || first i) || second i)
    ∙ clash-entered all steps c.args.place (count c.add.new.self) (count c.add-2.new.self) held.descends held.clashes (sym c.requires.at.last)
    (λ name. c.in_ok-add.ensures name ∙ (λ i. held.slots name i + times name (c.slots_at-slots.ensures i)))
    (λ name. c.in_ok-add-2.ensures name ∙ (λ i. held.methods name i + times name (c.methods_at-methods.ensures i))))

pub returns-clause-at : goal.returns-clause-at
returns-clause-at c =
    let all = c.args.self.now.classes.now in
    let steps = c.args.self.now.steps.items in
    let now = c.push.new.self.items in
    let held = c.requires.at.lineage in
    let items = c.in_ok-push.ensures.items in
    record {
      lineage = record {
        descends = descends-entered all now steps _ items held.descends (sym c.requires.at.last);
        slots = λ name. count-entered (slots_at all) now steps _ name c.slots_at-slots.result.now _ _ items (held.slots name) c.slots_at-slots.ensures (c.in_ok-add.ensures name);
        methods = λ name. count-entered (methods_at all) now steps _ name c.methods_at-methods.result.now _ _ items (held.methods name) c.methods_at-methods.ensures (c.in_ok-add-2.ensures name);
        clashes = subst (Knows all) (sym items) (knows-push all steps _ held.clashes (returns-clause-clashes c));
      };
      last = last-entered now steps _ items;
    }
