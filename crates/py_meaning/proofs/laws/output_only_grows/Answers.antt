use Rattle.py_meaning.proofs.RunLaws.{output_only_grows}
use Rattle.py_meaning.proofs.laws.output_only_grows.Goals as goal

pub returns : goal.returns
returns c = output_only_grows
