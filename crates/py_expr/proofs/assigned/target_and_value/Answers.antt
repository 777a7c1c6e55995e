use Rattle.py_tree.specs.Joined.{expression_of}
use Rattle.py_tree.specs.Nesting.{nesting}
use Rattle.py_expr.specs.Statements.{AllOfList}
use Rattle.py_expr.proofs.Places.{target_parts, no_target_part, no_value_part}
use Rattle.py_expr.proofs.Wholes.{some_whole, none_whole}
use Rattle.py_expr.proofs.assigned.target_and_value.Goals as goal
use Rattle.py_phrases.specs.Targets.{Assigned}

pub returns-in_default : goal.returns-in_default
returns-in_default c = no_value_part Assigned c.args.tokens.now c.args.phrase.now (none_whole AllOfList expression_of nesting c.args.tokens.now c.in_default.is c.in_ok-value.ensures)

pub returns-in-Some-2 : goal.returns-in-Some-2
returns-in-Some-2 c =
    target_parts c.args.tokens.now c.args.phrase.now c.in_ok-target.field-0 c.in-Some-2.target c.in-Some.value c.both.result c.in-Some-2.is c.in_ok-target.ensures.target (some_whole c.in-Some.is c.in_ok-value.ensures) c.both.ensures

pub returns-in-None : goal.returns-in-None
returns-in-None c = no_target_part c.args.tokens.now c.args.phrase.now c.in_ok-target.field-0 c.in-None.is c.in_ok-target.ensures.target
