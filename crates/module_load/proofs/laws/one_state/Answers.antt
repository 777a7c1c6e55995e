use Rattle.module_load.proofs.OneState as states
use Rattle.module_load.proofs.laws.one_state.Goals as goal

pub returns : goal.returns
returns c = states.one_state
