use Rattle.py_meaning.proofs.RunLaws.{objects_stay}
use Rattle.py_meaning.proofs.laws.objects_stay.Goals as goal

pub returns : goal.returns
returns c = objects_stay
