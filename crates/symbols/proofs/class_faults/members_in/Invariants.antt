use Rattle.std.proofs.Common.{◌≡◌, ◌++◌, drop}
use Rattle.std.specs.List.{flat_map}
use Rattle.symbols.specs.Faults as spec
use Rattle.symbols.specs.Views.{seen}
use Rattle.symbols.proofs.class_faults.members_in.Given as goal

abbrev pub invariant-loop-statement : goal.invariant-loop-statement
invariant-loop-statement l = l.all ++ flat_map spec.member_of (seen (drop l.statement-index l.scope)) ≡ flat_map spec.member_of (seen l.scope)
