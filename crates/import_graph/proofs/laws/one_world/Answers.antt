use Rattle.import_graph.specs.Closure.{count}
use Rattle.import_graph.specs.World.{rules_over}
use Rattle.import_graph.proofs.NeedLaws.{has_needs}
use Rattle.import_graph.proofs.Worlds.{world_is, world_one}
use Rattle.import_graph.proofs.laws.one_world.Goals as goal

pub returns-clause-fits : goal.returns-clause-fits
returns-clause-fits g c rows right is_refused m within = world_is (rules_over rows right is_refused) (count rows) (has_needs rows) m

pub returns-clause-one : goal.returns-clause-one
returns-clause-one g c rows right is_refused verdict fits = world_one (rules_over rows right is_refused) (count rows) (has_needs rows) verdict fits
