use Rattle.py_expr.proofs.SomeForm.{some_form}
use Rattle.py_expr.proofs.laws.every_line.Goals as goal

pub returns : goal.returns
returns c = some_form
