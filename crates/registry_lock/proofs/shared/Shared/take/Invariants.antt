use Rattle.std.proofs.Common.{◌≡◌}
use Rattle.registry_lock.proofs.shared.Shared.take.Given as goal

abbrev pub invariant-loop : goal.invariant-loop
invariant-loop g l =
    (goal.iterator-loop g).can_next l.iterator' × (goal.iterator-loop g).is_finite l.iterator' × (l.pass ≡ l.initial.pass) × (l.into.room ≡ l.initial.into.room)
