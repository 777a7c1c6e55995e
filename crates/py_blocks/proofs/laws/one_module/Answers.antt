use Rattle.py_blocks.proofs.Complete.{at_most_one}
use Rattle.py_blocks.proofs.laws.one_module.Goals as goal

pub returns : goal.returns
returns c = at_most_one
