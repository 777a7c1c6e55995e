use Rattle.std.proofs.Common.{◌++◌, drop, ap, ◌∙◌}
use Rattle.import_graph.specs.Graph.{Rows}
use Rattle.import_graph.specs.Closure.{cut_from}
use Rattle.import_graph.proofs.RowFacts.{cut_start}
use Rattle.import_graph.proofs.graph.cut.Goals as goal

pub loop-module-init : goal.loop-module-init
loop-module-init c = let a = c.new-kept.ensures in ap (λ (kept : Rows). kept ++ cut_from c.args.rows.now 0 (drop 0 c.args.rows.now)) c.new-kept.ensures ∙ cut_start c.args.rows.now
