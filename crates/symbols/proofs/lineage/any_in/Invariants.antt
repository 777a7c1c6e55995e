use Rattle.std.proofs.Common.{◌≡◌, drop, nat_lt}
use Rattle.std.specs.List.{list_any}
use Rattle.symbols.specs.Tallies.{count}
use Rattle.symbols.proofs.lineage.any_in.Given as goal

abbrev pub invariant-loop-name : goal.invariant-loop-name
invariant-loop-name l = list_any (λ name. nat_lt 0 (count l.tally name)) (drop l.name-index l.names) ≡ list_any (λ name. nat_lt 0 (count l.tally name)) l.names
