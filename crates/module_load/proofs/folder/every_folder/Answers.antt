use Rattle.module_load.proofs.SomeSources.{some_sources}
use Rattle.module_load.proofs.folder.every_folder.Goals as goal

pub returns : goal.returns
returns c = some_sources
