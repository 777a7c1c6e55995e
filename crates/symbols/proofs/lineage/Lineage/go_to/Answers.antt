-- Down by the classes that were climbed.
use Rattle.std.proofs.Common.{◌∙◌, List, Bor, sym, subst}
use Rattle.symbols.specs.declared.class.BasePlace.{BasePlace}
use Rattle.symbols.specs.declared.class.BasePlace.TheVariants.{None as NoPlace}
use Rattle.symbols.specs.declared.class_list.FoundClasses.{FoundClasses}
use Rattle.symbols.specs.Lineages.{Climbs, last_or, places_of}
use Rattle.symbols.proofs.Descents.{climbs-last}
use Rattle.symbols.proofs.lineage.Lineage.go_to.Goals as goal

pub enter-requires-clause-at : goal.enter-requires-clause-at
enter-requires-clause-at c =
    let all = c.loop-next.self.classes.now in
    let top = last_or NoPlace (places_of c.loop-next.self.steps.items) in
    record { lineage = c.loop-next.invariant.lineage; last = sym (climbs-last all c.pop.new.self.items c.args.place c.in-Some.next top (subst (λ (ps : List BasePlace). Climbs all c.args.place ps top) c.in-Some.ensures.items c.loop-next.invariant.climbs)).1 }

pub loop-next-preserved : goal.loop-next-preserved
loop-next-preserved c =
    let all = c.loop-next.self.classes.now in
    let top = last_or NoPlace (places_of c.loop-next.self.steps.items) in
    let climbs = (climbs-last all c.pop.new.self.items c.args.place c.in-Some.next top (subst (λ (ps : List BasePlace). Climbs all c.args.place ps top) c.in-Some.ensures.items c.loop-next.invariant.climbs)).0 in
    record {
      classes = c.in_ok-enter.ensures.classes ∙ c.loop-next.invariant.classes;
      args = c.in_ok-enter.ensures.args ∙ c.loop-next.invariant.args;
      lineage = c.in_ok-enter.ensures.at.lineage;
      climbs = subst (λ (p : BasePlace). Climbs c.enter.new.self.classes.now c.args.place c.pop.new.self.items p) (sym c.in_ok-enter.ensures.at.last)
          (subst (λ (b : Bor FoundClasses). Climbs b.now c.args.place c.pop.new.self.items c.in-Some.next) (sym c.in_ok-enter.ensures.classes) climbs);
    }
