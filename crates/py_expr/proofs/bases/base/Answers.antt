use Rattle.py_expr.proofs.FoundAt.{under}
use Rattle.py_expr.proofs.BaseFacts.{colon_found, empty_found}
use Rattle.py_expr.proofs.bases.base.Goals as goal

pub returns-in-Some-after_mark : goal.returns-in-Some-after_mark
returns-in-Some-after_mark c = under c.absent.ensures.built c.absent.ensures.rest (colon_found c.args.tokens.now c.in-Some-after_mark.rest.now c.in-Some-after_mark.ensures)

pub returns-in-Some-after_closed_head : goal.returns-in-Some-after_closed_head
returns-in-Some-after_closed_head c =
    under c.absent-in-Some-after_closed_head.ensures.built c.absent-in-Some-after_closed_head.ensures.rest
    (empty_found c.args.tokens.now c.in-Some.inner.now c.in-Some-after_closed_head.rest.now c.in-Some.ensures c.in-Some-after_closed_head.ensures)
