use Rattle.module_load.proofs.Places as places
use Rattle.module_load.proofs.laws.one_place.Goals as goal

pub returns : goal.returns
returns c = places.one_place
