use Rattle.import_graph.specs.Closure.{count, direct_of, need_of, is_cyclic}
use Rattle.import_graph.proofs.NeedLaws.{has_needs}
use Rattle.import_graph.proofs.Worlds.{decides_needs}
use Rattle.import_graph.proofs.laws.needs_are_decided.Goals as goal

pub returns : goal.returns
returns c rows = decides_needs (count rows) (direct_of rows) (need_of rows) (is_cyclic rows) (has_needs rows)
