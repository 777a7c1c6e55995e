use Rattle.py_values.proofs.Above.{all_above}
use Rattle.py_values.proofs.exception.exceptions_are_above.Goals as goal

pub returns : goal.returns
returns c = all_above
