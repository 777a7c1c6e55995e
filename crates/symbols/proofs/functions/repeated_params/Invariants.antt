use Rattle.std.proofs.Common.{◌≡◌, ◌++◌, drop}
use Rattle.symbols.specs.Faults as faults
use Rattle.symbols.specs.Located.{located}
use Rattle.symbols.proofs.functions.repeated_params.Given as goal

abbrev pub invariant-loop-known : goal.invariant-loop-known
invariant-loop-known l = l.lines ++ faults.repeated_params (located (drop l.known-index l.functions)) ≡ faults.repeated_params (located l.functions)
