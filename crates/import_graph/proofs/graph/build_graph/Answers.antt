use Rattle.std.proofs.Common.{ap, ◌∙◌}
use Rattle.import_graph.specs.Graph.{is_graph}
use Rattle.import_graph.proofs.RowFacts.{is_graph-cut, table_of_cut}
use Rattle.import_graph.proofs.graph.build_graph.Goals as goal

pub reach_table-requires-2 : goal.reach_table-requires-2
reach_table-requires-2 c = ap is_graph c.in_ok-cut.ensures ∙ is_graph-cut c.args.rows.now c.requires.modules

pub all_links-requires-clause-needed : goal.all_links-requires-clause-needed
all_links-requires-clause-needed c = table_of_cut c.args.rows.now c.in_ok-cut.cut c.in_ok-needed.needed.items c.as_slice-4.result.now c.in_ok-cut.ensures c.as_slice-4.ensures.value c.in_ok-needed.ensures
