use Rattle.std.proofs.Common.{◌≡◌, sym, ap, ◌∙◌, arith}
use Rattle.std.specs.Arc.{arc_value}
use Rattle.std.specs.Vec.{vec_capacity}
use Rattle.std.specs.Prelude.{slice_set}
use Rattle.registry_core.specs.declared.slot.Slot.TheVariants.{Claimed}
use Rattle.registry_core.specs.Slots.{slot_at}
use Rattle.registry_core.specs.View.{decided_by, open_after}
use Rattle.registry_core.specs.Named.{IsVerdictOf}
use Rattle.registry_core.proofs.Lists.{shown_set}
use Rattle.registry_core.proofs.Whole.{room_claimed, decide_kept, open_after_decision}
use Rattle.registry_core.specs.Decision.{decision}
use Rattle.registry_core.proofs.registry.Registry.decide.Goals as goal

pub push_reserved-requires : goal.push_reserved-requires
push_reserved-requires g c =
    let i = c.self.inside in
    let slot : slot_at i.slots.items c.args.claim.module ≡ Claimed c.args.claim.loader = ap (λ v. slot_at v.slots c.args.claim.module) c.self.view_is ∙ c.requires.slot in
    omega (arith, i.history.ok.0, room_claimed g.L.Loads g.N.Naming i.all.value _ i.fronts.items (vec_capacity i.history) c.self.invariant c.args.claim.module c.args.claim.loader slot)

pub invariant_of-self : goal.invariant_of-self
invariant_of-self g c =
    let i = c.self.inside in
    let m = c.spend-module.result.0 in
    let l = c.spend-module.result.1 in
    let slot : slot_at i.slots.items c.args.claim.module ≡ Claimed c.args.claim.loader = ap (λ v. slot_at v.slots c.args.claim.module) c.self.view_is ∙ c.requires.slot in
    let here : slot_at i.slots.items m ≡ Claimed l = rw (c.spend-module.ensures.number, c.spend-module.ensures.loader) slot in
    let w : IsVerdictOf g.L.Loads g.N.Naming m (arc_value c.args.verdict) = rw c.spend-module.ensures.number c.requires.right in
    let less : c.sub.new.self.total ≡ open_after (decision c.args.refused) i.book.total = omega (arith, c.sub.ensures.total, open_after_decision c.args.refused i.book.total) in
    rw (c.push_reserved.ensures.items, c.push_reserved.ensures.capacity, less, c.decided_slot.ensures, c.decision.ensures, shown_set i.verdicts.items m c.args.verdict)
    (decide_kept g.L.Loads g.N.Naming i.all.value _ i.fronts.items (vec_capacity i.history) c.self.invariant g.met.L.Loads.right_data m l c.args.refused (arc_value c.args.verdict) here w c.requires.refused)

pub returns-clause-event : goal.returns-clause-event
returns-clause-event g c =
    let i = c.self.inside in
    let m = c.spend-module.result.0 in
    let less : c.sub.new.self.total ≡ open_after (decision c.args.refused) i.book.total = omega (arith, c.sub.ensures.total, open_after_decision c.args.refused i.book.total) in
    (λ j. record {
      slots = slice_set i.slots.items m c.decided_slot.result;
      verdicts = shown_set i.verdicts.items m c.args.verdict j;
      history = c.push_reserved.ensures.items j;
      open_claims = (less ∙ ap (λ k. open_after k i.book.total) (sym c.decision.ensures)) j;
    })
    ∙ (λ j. decided_by (c.self.view_is j) (c.decision.ensures j) (c.spend-module.ensures.number j) (c.spend-module.ensures.loader j) (c.decided_slot.ensures j) (arc_value c.args.verdict))
