use Rattle.py_expr.proofs.SimpleLines.{is_nil, not_nil}
use Rattle.py_expr.proofs.WholeLines.{header_there, header_before_there}
use Rattle.py_expr.proofs.line.behind_head.Goals as goal

pub returns-then-is_empty : goal.returns-then-is_empty
returns-then-is_empty c = λ s f. header_there s c.args.tokens.now c.args.head c.header.result f (is_nil c.args.tokens.now c.if-is_empty.ensures) c.header.ensures

pub returns : goal.returns
returns c = header_before_there c.args.tokens.now c.args.head c.in_ok-kind.kind c.header_before.result (not_nil c.args.tokens.now c.if-is_empty.ensures) c.in_ok-kind.ensures c.header_before.ensures
