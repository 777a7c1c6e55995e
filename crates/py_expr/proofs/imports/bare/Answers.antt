use Rattle.py_expr.proofs.ImportLists.{bare_comma, bare_all}
use Rattle.py_expr.proofs.imports.bare.Goals as goal

pub returns-then-comma : goal.returns-then-comma
returns-then-comma c s read = bare_comma s c.args.list.rest.now c.args.list.items c.args.list.comma read c.if-comma.true

pub returns : goal.returns
returns c s read = bare_all s c.args.list.rest.now c.args.list.items c.args.list.comma c.all.result read c.if-comma.false c.all.ensures
