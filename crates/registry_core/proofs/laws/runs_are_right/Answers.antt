use Rattle.import_graph.specs.Closure.{count}
use Rattle.import_graph.specs.World.{rules_over}
use Rattle.import_graph.proofs.NeedLaws.{has_needs}
use Rattle.registry_core.proofs.Runs.{runs_right}
use Rattle.registry_core.proofs.laws.runs_are_right.Goals as goal

pub returns : goal.returns
returns g c rows right is_refused history s run = runs_right (rules_over rows right is_refused) (count rows) (has_needs rows) history s run
