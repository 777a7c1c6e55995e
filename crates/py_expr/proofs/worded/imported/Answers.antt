use Rattle.py_expr.proofs.SimpleLines.{import_there, no_import}
use Rattle.py_expr.proofs.worded.imported.Goals as goal

pub returns-in-Some : goal.returns-in-Some
returns-in-Some c = import_there c.args.tokens.now c.in-Some.names c.in_ok-names.field-0 c.in-Some.is c.in_ok-names.ensures

pub returns-in-None : goal.returns-in-None
returns-in-None c = no_import c.args.tokens.now c.in_ok-names.field-0 c.in-None.is c.in_ok-names.ensures
