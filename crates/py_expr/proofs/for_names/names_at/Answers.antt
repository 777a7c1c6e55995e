use Rattle.py_expr.proofs.NameLists.{next_name}
use Rattle.py_expr.proofs.for_names.names_at.Goals as goal

pub loop-name-preserved : goal.loop-name-preserved
loop-name-preserved c =
    next_name c.loop-name.names c.push.new.self c.in-Some.name.now c.in_ok-copy.field-0 c.loop-name.comma c.loop-name.rest.now c.in-Some.more.now c.in-Some-after_mark.next.now _
    c.in-Some.ensures c.in-Some-after_mark.ensures c.in_ok-copy.ensures.equal c.in_ok-push.ensures.ok c.loop-name.invariant
