use Rattle.module_load.proofs.RightOnes as right
use Rattle.module_load.proofs.laws.right_is_right.Goals as goal

pub returns : goal.returns
returns c = right.right_is_right
