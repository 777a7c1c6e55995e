use Rattle.py_expr.proofs.FoundAt.{under, no_result_found, result_found, some_found}
use Rattle.py_expr.proofs.parameters.result_kind.Goals as goal

pub returns-in-Some : goal.returns-in-Some
returns-in-Some c = under c.absent.ensures.built c.absent.ensures.rest (no_result_found c.args.tokens.now c.in-Some.rest.now c.in-Some.ensures)

pub returns-in-Some-2 : goal.returns-in-Some-2
returns-in-Some-2 c =
    under c.present.ensures.built c.present.ensures.rest
    (result_found c.args.tokens.now c.in-Some-after_mark.rest.now c.in-Some-2.found.rest.now c.in-Some-2.found.built c.in-Some-after_mark.ensures (some_found c.in-Some-2.is c.in_ok-found.ensures))
