use Rattle.py_expr.proofs.FoundAt.{under, no_default_found, default_found, some_found}
use Rattle.py_expr.proofs.parameters.default.Goals as goal

pub returns-in_default : goal.returns-in_default
returns-in_default c = under c.absent.ensures.built c.absent.ensures.rest (no_default_found c.args.tokens.now c.in_default.ensures)

pub returns-in-Some-2 : goal.returns-in-Some-2
returns-in-Some-2 c =
    under c.present.ensures.built c.present.ensures.rest
    (default_found c.args.tokens.now c.in-Some.rest.now c.in-Some-2.found.rest.now c.in-Some-2.found.built c.in-Some.ensures (some_found c.in-Some-2.is c.in_ok-found.ensures))
