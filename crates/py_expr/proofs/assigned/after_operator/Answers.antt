use Rattle.py_expr.proofs.SimpleLines.{no_mark, no_operator, operator_there}
use Rattle.py_expr.proofs.assigned.after_operator.Goals as goal

pub returns-in_default : goal.returns-in_default
returns-in_default c = no_mark c.args.tokens.now c.in_default.ensures

pub returns-in-Some-operator : goal.returns-in-Some-operator
returns-in-Some-operator c = operator_there c.args.tokens.now c.in-Some.rest.now c.in-Some.mark c.in-Some-operator.op c.in-Some.ensures c.in-Some-operator.ensures

pub returns-in-None : goal.returns-in-None
returns-in-None c = no_operator c.args.tokens.now c.in-Some.rest.now c.in-Some.mark c.in-Some.ensures c.in-None.ensures
