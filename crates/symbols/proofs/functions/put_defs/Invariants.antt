use Rattle.std.proofs.Common.{◌≡◌, ◌++◌, drop}
use Rattle.std.specs.List.{flat_map}
use Rattle.symbols.specs.Functions as spec
use Rattle.symbols.specs.Located.{located}
use Rattle.symbols.specs.Views.{seen}
use Rattle.symbols.proofs.functions.put_defs.Given as goal

abbrev pub invariant-loop-statement : goal.invariant-loop-statement
invariant-loop-statement l = located l.all.items ++ flat_map spec.def_of (seen (drop l.statement-index l.scope)) ≡ located l.initial.all.items ++ flat_map spec.def_of (seen l.scope)
