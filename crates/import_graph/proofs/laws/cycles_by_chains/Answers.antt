use Rattle.import_graph.proofs.ByChains.{cyclic_is, cyclic_line_is}
use Rattle.import_graph.proofs.laws.cycles_by_chains.Goals as goal

pub returns-clause-test : goal.returns-clause-test
returns-clause-test c = cyclic_is

pub returns-clause-line : goal.returns-clause-line
returns-clause-line c = cyclic_line_is
