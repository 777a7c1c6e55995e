use Rattle.py_expr.proofs.Wholes.{value_absent, value_there, some_whole}
use Rattle.py_expr.proofs.whole.value.Goals as goal

pub returns-in_default : goal.returns-in_default
returns-in_default c = value_absent c.args.tokens.now c.last.result c.in_default.ensures c.last.ensures

pub returns-in-Some-2 : goal.returns-in-Some-2
returns-in-Some-2 c = value_there c.args.tokens.now c.in-Some.rest.now c.in-Some-2.built c.present.result.built c.in-Some.ensures c.present.ensures.built (some_whole c.in-Some-2.is c.in_ok-built.ensures)
