use Rattle.std.proofs.Common.{◌≡◌, ◌+◌, All, length}
use Rattle.registry_lock.proofs.passes.Passes.into_whole.Given as goal

abbrev pub invariant-loop-pass : goal.invariant-loop-pass
invariant-loop-pass g l = (l.whole.parts + length l.rows.items ≡ g.N.Ledger.parts) × (l.whole.amount ≡ 0) × All (λ pass. pass.open_claims ≡ 0) l.rows.items

abbrev pub decreases-loop-pass : goal.decreases-loop-pass
decreases-loop-pass g l = goal.left-loop-pass g l
