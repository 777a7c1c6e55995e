use Rattle.py_meaning.proofs.Budgets.{calls_end_with_fuel, bodies_end_with_fuel}
use Rattle.py_meaning.proofs.laws.calls_end_with_fuel.Goals as goal

pub returns-clause-functions : goal.returns-clause-functions
returns-clause-functions c = calls_end_with_fuel

pub returns-clause-bodies : goal.returns-clause-bodies
returns-clause-bodies c = bodies_end_with_fuel
