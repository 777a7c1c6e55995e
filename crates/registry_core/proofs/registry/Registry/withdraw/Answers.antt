use Rattle.std.proofs.Common.{◌≡◌, ◌-◌, ap, ◌∙◌, arith}
use Rattle.std.specs.Vec.{vec_capacity}
use Rattle.registry_core.specs.declared.slot.Slot.TheVariants.{Claimed}
use Rattle.registry_core.specs.Slots.{slot_at}
use Rattle.registry_core.proofs.Whole.{room_claimed, withdraw_kept}
use Rattle.registry_core.proofs.registry.Registry.withdraw.Goals as goal

pub push_reserved-requires : goal.push_reserved-requires
push_reserved-requires g c =
    let i = c.self.inside in
    let slot : slot_at i.slots.items c.args.claim.module ≡ Claimed c.args.claim.loader = ap (λ v. slot_at v.slots c.args.claim.module) c.self.view_is ∙ c.requires.slot in
    omega (arith, i.history.ok.0, room_claimed g.L.Loads g.N.Naming i.all.value _ i.fronts.items (vec_capacity i.history) c.self.invariant c.args.claim.module c.args.claim.loader slot)

pub invariant_of-self : goal.invariant_of-self
invariant_of-self g c =
    let i = c.self.inside in
    let m = c.spend-module.result.0 in
    let l = c.spend-module.result.1 in
    let slot : slot_at i.slots.items c.args.claim.module ≡ Claimed c.args.claim.loader = ap (λ v. slot_at v.slots c.args.claim.module) c.self.view_is ∙ c.requires.slot in
    let here : slot_at i.slots.items m ≡ Claimed l = rw (c.spend-module.ensures.number, c.spend-module.ensures.loader) slot in
    let less : c.sub.new.self.total ≡ i.book.total - 1 = omega (arith, c.sub.ensures.total) in
    rw (c.push_reserved.ensures.items, c.push_reserved.ensures.capacity, less)
    (withdraw_kept g.L.Loads g.N.Naming i.all.value _ i.fronts.items (vec_capacity i.history) c.self.invariant m l here)
