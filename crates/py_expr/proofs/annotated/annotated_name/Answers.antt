use Rattle.py_tree.specs.Syntax as x
use Rattle.py_expr.proofs.SimpleLines.{name_annotated, no_name_annotation, not_annotated}
use Rattle.py_expr.proofs.annotated.annotated_name.Goals as goal

pub returns-in_ok-kind-in-Some : goal.returns-in_ok-kind-in-Some
returns-in_ok-kind-in-Some c = name_annotated c.args.name.now c.args.tokens.now c.in_ok-parts.field-0 c.in-Some.parts c.in_ok-kind-in-Some.kind c.in-Some.is c.in_ok-parts.ensures c.in_ok-kind-in-Some.ensures

pub returns-in-None : goal.returns-in-None
returns-in-None c = no_name_annotation c.args.name.now c.args.tokens.now (not_annotated (x.ToName c.args.name.now) c.args.tokens.now c.in_ok-parts.field-0 c.in-None.is c.in_ok-parts.ensures)
