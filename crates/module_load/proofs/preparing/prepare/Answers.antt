use Rattle.module_load.specs.Sources.{state_of}
use Rattle.module_load.proofs.OneState.{one_state}
use Rattle.module_load.proofs.preparing.prepare.Goals as goal

pub returns-clause-exact : goal.returns-clause-exact
returns-clause-exact c = λ state d. one_state c.args.bytes.now state (state_of c.in_ok-state.state) d c.in_ok-state.ensures.so
