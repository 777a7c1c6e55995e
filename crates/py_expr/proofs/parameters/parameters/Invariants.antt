use Rattle.std.proofs.Common.{length}
use Rattle.py_expr.proofs.ParameterLists.{SoFar}
use Rattle.py_expr.proofs.parameters.parameters.Given as goal

abbrev pub invariant-loop-behind : goal.invariant-loop-behind
invariant-loop-behind l = SoFar l.fn.tokens l.rest l.params l.defaults

abbrev pub decreases-loop-behind : goal.decreases-loop-behind
decreases-loop-behind l = length l.rest
