use Rattle.registry_core.proofs.Runs.{ended_stays}
use Rattle.registry_core.proofs.laws.ended_stay.Goals as goal

pub returns-clause-slots : goal.returns-clause-slots
returns-clause-slots g c rules s t events m run h = (ended_stays rules events s t m run h).slot

pub returns-clause-verdicts : goal.returns-clause-verdicts
returns-clause-verdicts g c rules s t events m run h = (ended_stays rules events s t m run h).verdict
