use Rattle.py_expr.proofs.FoundAt.{under}
use Rattle.py_expr.proofs.BaseFacts.{named_found, dotted_found}
use Rattle.py_expr.proofs.bases.named_base.Goals as goal

pub returns-in_ok-named-in-Some-after_closed_head : goal.returns-in_ok-named-in-Some-after_closed_head
returns-in_ok-named-in-Some-after_closed_head c =
    under c.a_base.ensures.built c.a_base.ensures.rest
    (named_found c.args.name.now c.args.tokens.now c.in-Some-after_closed_head.rest.now c.in_ok-named-in-Some-after_closed_head.field-0 c.in-Some-after_closed_head.ensures c.in_ok-named-in-Some-after_closed_head.ensures)

pub returns-in_ok-dotted-in-Some-after_closed_head-2 : goal.returns-in_ok-dotted-in-Some-after_closed_head-2
returns-in_ok-dotted-in-Some-after_closed_head-2 c =
    under c.a_base-in-Some-after_closed_head-2.ensures.built c.a_base-in-Some-after_closed_head-2.ensures.rest
    (dotted_found c.args.name.now c.in-Some-after_name.member.now c.args.tokens.now c.in-Some.more.now c.in-Some-after_name.behind.now c.in-Some-after_closed_head-2.rest.now c.in_ok-dotted-in-Some-after_closed_head-2.field-0
    c.in-Some.ensures c.in-Some-after_name.ensures c.in-Some-after_closed_head-2.ensures c.in_ok-dotted-in-Some-after_closed_head-2.ensures)
