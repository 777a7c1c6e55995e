use Rattle.py_expr.proofs.ImportLists.{taken_bare_ok}
use Rattle.py_expr.proofs.imports.taken.Goals as goal

pub returns-in-None : goal.returns-in-None
returns-in-None c = taken_bare_ok c.args.tokens.now c.import_items.result c.in-None.ensures c.import_items.ensures
