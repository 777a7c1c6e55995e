use Rattle.std.proofs.Common.{◌≡◌, ◌≤◌}
use Rattle.registry_core.specs.Named.{module_count}
use Rattle.loader_gate.proofs.loader.loader.Given as goal

abbrev pub invariant-loop : goal.invariant-loop
invariant-loop g l =
    (goal.iterator-loop g).can_next l.iterator' × (goal.iterator-loop g).is_finite l.iterator' × (l.pass ≡ l.initial.pass) × (l.pass.open_claims ≡ 0) × (module_count g.N.Naming ≤ l.room.room)
