use Rattle.std.proofs.Common.{◌≡◌, drop}
use Rattle.import_graph.specs.Closure.{line_back}
use Rattle.import_graph.proofs.graph.line_back.Given as goal

abbrev pub invariant-loop-import : goal.invariant-loop-import
invariant-loop-import l = line_back l.rows l.module (drop l.import-index l.import-items) ≡ line_back l.rows l.module l.import-items
