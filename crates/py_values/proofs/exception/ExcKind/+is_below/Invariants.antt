use Rattle.py_values.proofs.Below.{height}
use Rattle.py_values.proofs.exception.ExcKind.+is_below.Given as goal

abbrev pub decreases-is_below : goal.decreases-is_below
decreases-is_below l = height l.self
