use Rattle.std.proofs.Common.{◌≡◌}
use Rattle.import_graph.specs.Sets.{is_in}
use Rattle.import_graph.specs.Closure.{those}
use Rattle.import_graph.proofs.sets.NumberSet.numbers.Given as goal

abbrev pub invariant-loop-number : goal.invariant-loop-number
invariant-loop-number l = l.numbers ≡ those (is_in l.self) l.number
