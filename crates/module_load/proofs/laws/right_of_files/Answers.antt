use Rattle.module_load.proofs.RightFiles as right
use Rattle.module_load.proofs.laws.right_of_files.Goals as goal

pub returns : goal.returns
returns c = right.right_of_files
