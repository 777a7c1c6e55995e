use Rattle.py_meaning.proofs.Budgets.{ticks_lower_fuel}
use Rattle.py_meaning.proofs.laws.ticks_lower_fuel.Goals as goal

pub returns : goal.returns
returns c = ticks_lower_fuel
