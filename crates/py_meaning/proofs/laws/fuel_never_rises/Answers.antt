use Rattle.py_meaning.proofs.RunLaws.{fuel_never_rises}
use Rattle.py_meaning.proofs.laws.fuel_never_rises.Goals as goal

pub returns : goal.returns
returns c = fuel_never_rises
