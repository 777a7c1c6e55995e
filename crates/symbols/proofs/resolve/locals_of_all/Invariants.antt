use Rattle.std.proofs.Common.{◌≡◌, ◌++◌, drop}
use Rattle.symbols.specs.Functions.{locals_in}
use Rattle.symbols.specs.Located.{located}
use Rattle.symbols.proofs.resolve.locals_of_all.Given as goal

abbrev pub invariant-loop-known : goal.invariant-loop-known
invariant-loop-known l = l.all ++ locals_in (located (drop l.known-index l.functions)) ≡ locals_in (located l.functions)
