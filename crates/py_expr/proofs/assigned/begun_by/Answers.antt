use Rattle.py_expr.proofs.SimpleLines.{is_nil, not_nil, evaluated_there}
use Rattle.py_expr.proofs.assigned.begun_by.Goals as goal

pub assigned-requires : goal.assigned-requires
assigned-requires c = not_nil c.args.phrase.now.rest.now c.if-is_empty.ensures

pub returns-then-is_empty : goal.returns-then-is_empty
returns-then-is_empty c =
    λ s e plain is. evaluated_there s c.args.phrase.now.rest.now e c.args.phrase.now c.in_ok-expression.field-0 c.evaluating.result is (is_nil c.args.phrase.now.rest.now c.if-is_empty.ensures) c.in_ok-expression.ensures.expression c.evaluating.ensures
