use Rattle.module_load.proofs.OneDecision as decisions
use Rattle.module_load.proofs.laws.one_decision.Goals as goal

pub returns : goal.returns
returns c = decisions.one_decision
