use Rattle.std.proofs.Common.{◌≡◌, drop}
use Rattle.std.specs.List.{flat_map}
use Rattle.symbols.specs.Classes as spec
use Rattle.symbols.specs.Names.{with_names}
use Rattle.symbols.specs.Views.{seen}
use Rattle.symbols.proofs.classes.add_selves.Given as goal

abbrev pub invariant-loop-statement : goal.invariant-loop-statement
invariant-loop-statement l = with_names l.names (flat_map spec.self_names (seen (drop l.statement-index l.scope))) ≡ with_names l.initial.names (flat_map spec.self_names (seen l.scope))
