use Rattle.py_tree.specs.Syntax as x
use Rattle.py_expr.proofs.SimpleLines.{attribute_annotated, no_attribute_annotation, not_annotated}
use Rattle.py_expr.proofs.annotated.annotated_attribute.Goals as goal

pub returns-in_ok-kind-in-Some : goal.returns-in_ok-kind-in-Some
returns-in_ok-kind-in-Some c = attribute_annotated c.args.object.now c.args.name.now c.args.tokens.now c.in_ok-parts.field-0 c.in-Some.parts c.in_ok-kind-in-Some.kind c.in-Some.is c.in_ok-parts.ensures c.in_ok-kind-in-Some.ensures

pub returns-in-None : goal.returns-in-None
returns-in-None c = no_attribute_annotation c.args.object.now c.args.name.now c.args.tokens.now (not_annotated (x.ToAttr (x.Name c.args.object.now) c.args.name.now) c.args.tokens.now c.in_ok-parts.field-0 c.in-None.is c.in_ok-parts.ensures)
