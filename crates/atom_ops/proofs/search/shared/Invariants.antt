use Rattle.std.proofs.Common.{◌≡◌, ◌+◌, drop}
use Rattle.atom_ops.specs.Shared as common
use Rattle.atom_ops.proofs.search.shared.Given as goal

abbrev pub invariant-loop-place : goal.invariant-loop-place
invariant-loop-place l = l.place + common.shared (drop l.place l.a) (drop l.place l.b) ≡ common.shared l.a l.b
