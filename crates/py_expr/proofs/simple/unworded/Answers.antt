use Rattle.py_expr.proofs.SimpleLines.{plain_no_name}
use Rattle.py_expr.proofs.simple.unworded.Goals as goal

pub plain-requires : goal.plain-requires
plain-requires c = plain_no_name c.args.tokens.now c.requires c.in-None.ensures
