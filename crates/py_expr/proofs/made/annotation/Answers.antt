use Rattle.py_expr.proofs.KindsOf.{annotate_made}
use Rattle.py_expr.proofs.made.annotation.Goals as goal

pub returns : goal.returns
returns c = annotate_made c.args.target c.args.parts.0 c.in_ok-kind.kind c.args.parts.1 c.in_ok-value.value c.in_ok-kind.ensures c.in_ok-value.ensures
