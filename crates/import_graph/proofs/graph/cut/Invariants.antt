use Rattle.std.proofs.Common.{◌≡◌, ◌++◌, drop}
use Rattle.import_graph.specs.Closure.{cut, cut_from}
use Rattle.import_graph.proofs.graph.cut.Given as goal

abbrev pub invariant-loop-module : goal.invariant-loop-module
invariant-loop-module l = l.kept ++ cut_from l.rows l.module (drop l.module l.rows) ≡ cut l.rows
