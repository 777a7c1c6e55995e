use Rattle.module_load.proofs.RightFiles as right
use Rattle.module_load.proofs.laws.known_exactly.Goals as goal

pub returns : goal.returns
returns c = right.known_exactly
