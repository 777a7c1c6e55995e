use Rattle.module_load.proofs.SomeState.{some_state}
use Rattle.module_load.proofs.laws.every_file.Goals as goal

pub returns : goal.returns
returns c = some_state
