use Rattle.py_expr.proofs.SimpleLines.{equal_ok, operator_ok, nothing_behind}
use Rattle.py_expr.proofs.assigned.assigned.Goals as goal

pub returns-in-Some : goal.returns-in-Some
returns-in-Some c = equal_ok c.args.phrase.now.rest.now c.in-Some.value.now c.args.phrase.now c.assignment.result c.in-Some.ensures c.assignment.ensures

pub returns-in-Some-after_operator : goal.returns-in-Some-after_operator
returns-in-Some-after_operator c =
    operator_ok c.args.phrase.now.rest.now c.in-Some-after_operator.value.now c.in-Some-after_operator.op c.args.phrase.now c.augmentation.result c.in-Some-after_operator.ensures c.augmentation.ensures

pub returns-in-None : goal.returns-in-None
returns-in-None c = λ s e plain is. nothing_behind s c.args.phrase.now.rest.now e c.args.phrase.now plain is c.requires c.in_default.ensures c.in-None.ensures
