use Rattle.std.proofs.Common.{◌≡◌, ◌∙◌, ◌++◌, ◌∷◌, [], List, ap, sym, subst, inr, rules}
use Rattle.std.specs.List.{flat_map}
use Rattle.symbols.specs.declared.class.BasePlace.TheVariants.{None as NoPlace}
use Rattle.symbols.specs.Tallies.{times}
use Rattle.symbols.specs.Lineages.{Descends, Knows, methods_at, places_of, slots_at}
use Rattle.symbols.proofs.Descents.{count-left, descends-left, knows-pop, last-entered}
use Rattle.symbols.specs.declared.lineage.Step.{Step}
use Rattle.symbols.proofs.lineage.Lineage.leave_all_but.Goals as goal

pub returns-then-eq-clause-at : goal.returns-then-eq-clause-at
returns-then-eq-clause-at c =
    let all = c.loop-last.self.classes.now in
    let steps = c.loop-last.self.steps.items in
    let now = c.push.new.self.items in
    let same : now ≡ steps = c.in_ok-push.ensures.items ∙ sym c.in-Some.ensures.items in
    let at : c.in-Some.last.place ≡ c.args.place = search rules in
    let held = c.loop-last.invariant.lineage in (
      record {
        descends = subst (λ (xs : List Step). Descends all NoPlace (places_of xs)) (sym same) held.descends;
        slots = λ name. held.slots name ∙ ap (λ (xs : List Step). times name (flat_map (slots_at all) (places_of xs))) (sym same);
        methods = λ name. held.methods name ∙ ap (λ (xs : List Step). times name (flat_map (methods_at all) (places_of xs))) (sym same);
        clashes = subst (Knows all) (sym same) held.clashes;
      },
      inr (last-entered now c.pop.new.self.items c.in-Some.last c.in_ok-push.ensures.items ∙ at),
    )

pub loop-last-preserved : goal.loop-last-preserved
loop-last-preserved c =
    let all = c.loop-last.self.classes.now in
    let steps = c.loop-last.self.steps.items in
    let init = c.pop.new.self.items in
    let last = c.in-Some.last in
    let items : steps ≡ init ++ last ∷ [] = c.in-Some.ensures.items in
    let held = c.loop-last.invariant.lineage in
    record {
      classes = c.loop-last.invariant.classes;
      args = c.loop-last.invariant.args;
      lineage = record {
        descends = descends-left all steps init last items held.descends;
        slots = λ name. count-left (slots_at all) steps init last name c.slots_at.result.now _ _ items (held.slots name) c.slots_at.ensures (c.in_ok-remove.ensures name);
        methods = λ name. count-left (methods_at all) steps init last name c.methods_at.result.now _ _ items (held.methods name) c.methods_at.ensures (c.in_ok-remove-2.ensures name);
        clashes = knows-pop all init last (subst (Knows all) items held.clashes);
      };
    }
