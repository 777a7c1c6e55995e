use Rattle.py_expr.proofs.SimpleLines.{from_there, no_from}
use Rattle.py_expr.proofs.worded.imported_from.Goals as goal

pub returns-in-Some : goal.returns-in-Some
returns-in-Some c = from_there c.args.tokens.now c.in-Some.module c.in-Some.names c.in_ok-module.field-0 c.in-Some.is c.in_ok-module.ensures

pub returns-in-None : goal.returns-in-None
returns-in-None c = no_from c.args.tokens.now c.in_ok-module.field-0 c.in-None.is c.in_ok-module.ensures
