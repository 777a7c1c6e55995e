use Rattle.std.proofs.Common.{◌∙◌, sym, subst, List}
use Rattle.symbols.specs.declared.class.BasePlace.{BasePlace}
use Rattle.symbols.specs.Lineages.{Climbs, above}
use Rattle.symbols.proofs.Descents.{climbs-push, rank, rank_above}
use Rattle.std.proofs.Common.{◌<◌}
use Rattle.symbols.proofs.class_list.FoundClasses.climb.Goals as goal

pub loop-next-smaller : goal.loop-next-smaller
loop-next-smaller c = subst (λ (p : BasePlace). rank p < rank c.loop-next.next) (sym c.above-next.ensures) (rank_above c.args.self.now c.loop-next.next (sym c.is_class.ensures ∙ c.loop-next-test.true))

pub loop-next-preserved : goal.loop-next-preserved
loop-next-preserved c =
    subst (λ (p : BasePlace). Climbs c.args.self.now c.args.place c.push.new.self.items p) (sym c.above-next.ensures)
    (subst (λ (ps : List BasePlace). Climbs c.args.self.now c.args.place ps (above c.args.self.now c.loop-next.next)) (sym c.in_ok-push.ensures.items) (climbs-push c.args.self.now c.loop-next.all.items c.args.place c.loop-next.next c.loop-next.invariant))
