use Rattle.std.proofs.Common.{◌≡◌, false, length}
use Rattle.py_expr.specs.Runs as spec
use Rattle.py_expr.proofs.for_names.names_at.Given as goal

abbrev pub invariant-loop-name : goal.invariant-loop-name
invariant-loop-name l = spec.behind_names l.names (spec.names_at l.comma l.rest) ≡ spec.names_at false l.fn.tokens

abbrev pub decreases-loop-name : goal.decreases-loop-name
decreases-loop-name l = length l.rest
