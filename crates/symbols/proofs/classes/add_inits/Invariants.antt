use Rattle.std.proofs.Common.{◌≡◌, drop}
use Rattle.std.specs.List.{flat_map}
use Rattle.symbols.specs.Classes as spec
use Rattle.symbols.specs.Names.{with_names}
use Rattle.symbols.specs.Views.{seen}
use Rattle.symbols.proofs.classes.add_inits.Given as goal

abbrev pub invariant-loop-statement : goal.invariant-loop-statement
invariant-loop-statement l = with_names l.names (flat_map spec.in_init (seen (drop l.statement-index l.body))) ≡ with_names l.initial.names (flat_map spec.in_init (seen l.body))
