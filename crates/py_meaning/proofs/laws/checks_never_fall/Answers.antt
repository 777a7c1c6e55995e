use Rattle.py_meaning.proofs.RunLaws.{checks_never_fall}
use Rattle.py_meaning.proofs.laws.checks_never_fall.Goals as goal

pub returns : goal.returns
returns c = checks_never_fall
