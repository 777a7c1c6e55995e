use Rattle.py_meaning.proofs.Budgets.{loops_end_with_fuel}
use Rattle.py_meaning.proofs.laws.loops_end_with_fuel.Goals as goal

pub returns : goal.returns
returns c = loops_end_with_fuel
