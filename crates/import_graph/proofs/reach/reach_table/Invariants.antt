use Rattle.std.proofs.Common.{length}
use Rattle.import_graph.specs.Closure.{reaches_below}
use Rattle.import_graph.specs.Sets.{IsTable}
use Rattle.import_graph.proofs.reach.reach_table.Given as goal

abbrev pub invariant-loop-by : goal.invariant-loop-by
invariant-loop-by l = IsTable (reaches_below l.rows l.by) (length l.rows) l.table.items
