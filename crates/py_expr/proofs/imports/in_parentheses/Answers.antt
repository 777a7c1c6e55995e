use Rattle.py_expr.proofs.ImportLists.{unclosed, closed_all}
use Rattle.py_expr.proofs.imports.in_parentheses.Goals as goal

pub returns-in-Some : goal.returns-in-Some
returns-in-Some c s read = closed_all s c.args.list.rest.now c.in-Some.behind.now c.args.list.items c.args.list.comma c.all.result read c.in-Some.ensures c.all.ensures

pub returns-in-None : goal.returns-in-None
returns-in-None c s read = unclosed s c.args.list.rest.now c.args.list.items c.args.list.comma read c.in-None.ensures
