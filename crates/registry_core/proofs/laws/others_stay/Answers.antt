use Rattle.registry_core.proofs.Runs.{other_slots, other_verdicts}
use Rattle.registry_core.proofs.laws.others_stay.Goals as goal

pub returns-clause-slots : goal.returns-clause-slots
returns-clause-slots g c = other_slots

pub returns-clause-verdicts : goal.returns-clause-verdicts
returns-clause-verdicts g c = other_verdicts
