use Rattle.std.proofs.Common.{subst}
use Rattle.std.specs.Vec.{vec_capacity}
use Rattle.registry_core.specs.Named.{IsRightView}
use Rattle.registry_core.specs.Right.{IsClaimedOnce}
use Rattle.registry_core.specs.Slots.{slot_at, events_of}
use Rattle.registry_core.proofs.Events.{happened_once}
use Rattle.registry_core.proofs.Whole.{view_kept}
use Rattle.registry_core.proofs.registry.Registry.history.Goals as goal

pub returns-clause-right : goal.returns-clause-right
returns-clause-right g c =
    let i = c.self.inside in
    subst (IsRightView g.L.Loads g.N.Naming) c.self.view_is (view_kept g.L.Loads g.N.Naming i.all.value _ i.fronts.items (vec_capacity i.history) c.self.invariant)

pub returns-clause-once : goal.returns-clause-once
returns-clause-once g c =
    let i = c.self.inside in
    subst (λ v. IsClaimedOnce v.history) c.self.view_is (λ m. happened_once (slot_at i.slots.items m) m (events_of m i.history.items) (c.self.invariant.right_one.events m))
