use Rattle.py_expr.proofs.SimpleLines.{assigned_there, no_assignment}
use Rattle.py_expr.proofs.assigned.assignment.Goals as goal

pub returns-in-Some : goal.returns-in-Some
returns-in-Some c = λ s e plain is. assigned_there s c.args.value.now e c.args.phrase.now c.in_ok-parts.field-0 c.in-Some.parts c.assigning.result c.in-Some.is c.in_ok-parts.ensures is c.assigning.ensures

pub returns-in-None : goal.returns-in-None
returns-in-None c = λ s e plain is. no_assignment s c.args.value.now e c.args.phrase.now c.in_ok-parts.field-0 c.in-None.is c.in_ok-parts.ensures plain is
