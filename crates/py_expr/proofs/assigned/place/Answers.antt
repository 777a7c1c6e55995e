use Rattle.py_expr.proofs.Places.{only_place, no_target_there}
use Rattle.py_expr.proofs.assigned.place.Goals as goal

pub returns-in-Some : goal.returns-in-Some
returns-in-Some c = only_place c.args.phrase.now c.in_ok-target.field-0 c.in-Some.target c.only_place.result c.in-Some.is c.in_ok-target.ensures.target c.only_place.ensures

pub returns-in-None : goal.returns-in-None
returns-in-None c = no_target_there c.args.phrase.now c.in_ok-target.field-0 c.in-None.is c.in_ok-target.ensures.target
