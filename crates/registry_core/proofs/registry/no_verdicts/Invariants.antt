use Rattle.std.proofs.Common.{◌≡◌, replicate, None}
use Rattle.registry_core.proofs.registry.no_verdicts.Given as goal

abbrev pub invariant-loop-module : goal.invariant-loop-module
invariant-loop-module g l = l.verdicts.items ≡ replicate l._module None
