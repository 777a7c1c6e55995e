use Rattle.std.proofs.Common.{◌≡◌, ◌++◌, drop}
use Rattle.std.specs.List.{flat_map}
use Rattle.symbols.specs.Functions as spec
use Rattle.symbols.specs.Located.{located}
use Rattle.symbols.specs.Views.{seen}
use Rattle.symbols.proofs.functions.functions_of.Given as goal

abbrev pub invariant-loop-statement : goal.invariant-loop-statement
invariant-loop-statement l = located l.all.items ++ flat_map spec.functions_of (seen (drop l.statement-index l.scope)) ≡ flat_map spec.functions_of (seen l.scope)
