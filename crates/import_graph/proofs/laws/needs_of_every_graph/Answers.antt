use Rattle.import_graph.proofs.NeedLaws.{has_needs}
use Rattle.import_graph.proofs.laws.needs_of_every_graph.Goals as goal

pub returns : goal.returns
returns c = has_needs
