use Rattle.py_tree.specs.Joined.{expression_of}
use Rattle.py_tree.specs.Nesting.{nesting}
use Rattle.py_expr.specs.Statements.{AllOfList}
use Rattle.py_expr.proofs.Places.{place_parts, no_place_part, no_value_part}
use Rattle.py_expr.proofs.Wholes.{some_whole, none_whole}
use Rattle.py_expr.proofs.assigned.place_and_value.Goals as goal
use Rattle.py_phrases.specs.Targets.{Place}

pub returns-in_default : goal.returns-in_default
returns-in_default c = no_value_part Place c.args.tokens.now c.args.phrase.now (none_whole AllOfList expression_of nesting c.args.tokens.now c.in_default.is c.in_ok-value.ensures)

pub returns-in-Some-2 : goal.returns-in-Some-2
returns-in-Some-2 c =
    place_parts c.args.tokens.now c.args.phrase.now c.in_ok-place.field-0 c.in-Some-2.place c.in-Some.value c.both.result c.in-Some-2.is c.in_ok-place.ensures (some_whole c.in-Some.is c.in_ok-value.ensures) c.both.ensures

pub returns-in-None : goal.returns-in-None
returns-in-None c = no_place_part c.args.tokens.now c.args.phrase.now c.in_ok-place.field-0 c.in-None.is c.in_ok-place.ensures
