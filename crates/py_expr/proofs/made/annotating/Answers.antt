use Rattle.py_expr.proofs.MadeOfTwo.{annotated, annotated_deep}
use Rattle.py_expr.proofs.made.annotating.Goals as goal

pub returns-in_ok-kind-in-Shallow : goal.returns-in_ok-kind-in-Shallow
returns-in_ok-kind-in-Shallow c = annotated c.args.parts c.in-Shallow.target c.in-Shallow.parts c.in_ok-kind-in-Shallow.kind c.in-Shallow.is c.in_ok-kind-in-Shallow.ensures

pub returns-in-TooDeep : goal.returns-in-TooDeep
returns-in-TooDeep c = annotated_deep c.args.parts c.in-TooDeep.is
