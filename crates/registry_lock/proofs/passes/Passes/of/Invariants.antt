use Rattle.std.proofs.Common.{◌≡◌, ◌≤◌, ◌+◌}
use Rattle.std.specs.Vec.{vec_capacity}
use Rattle.registry_lock.specs.Passes.{AreFresh}
use Rattle.registry_lock.proofs.passes.Passes.of.Given as goal

abbrev pub invariant-loop-number : goal.invariant-loop-number
invariant-loop-number g l = (l.rest.parts + l.number ≡ g.N.Ledger.parts) × (l.rest.amount ≡ 0) × (l.loaders ≤ vec_capacity l.rows) × AreFresh l.number l.rows.items
