use Rattle.import_graph.proofs.ByChains.{direct_list, reached_list, need_list}
use Rattle.import_graph.proofs.laws.lists_by_chains.Goals as goal

pub returns-clause-direct : goal.returns-clause-direct
returns-clause-direct c = direct_list

pub returns-clause-reached : goal.returns-clause-reached
returns-clause-reached c = reached_list

pub returns-clause-need : goal.returns-clause-need
returns-clause-need c = need_list
