use Rattle.py_expr.proofs.SimpleLines.{colon_ok, attribute_ok, plain_name}
use Rattle.py_expr.proofs.simple.named.Goals as goal

pub returns-in-Some : goal.returns-in-Some
returns-in-Some c = colon_ok c.args.tokens.now c.args.rest.now c.in-Some.kind.now c.args.name.now c.annotated_name.result c.requires c.in-Some.ensures c.annotated_name.ensures

pub returns-in-Some-after_attribute : goal.returns-in-Some-after_attribute
returns-in-Some-after_attribute c =
    attribute_ok c.args.tokens.now c.args.rest.now c.in-Some-after_attribute.kind.now c.args.name.now c.in-Some-after_attribute.attribute.now c.annotated_attribute.result
    c.requires c.in-Some-after_attribute.ensures c.annotated_attribute.ensures

pub plain-requires : goal.plain-requires
plain-requires c = plain_name c.args.tokens.now c.args.rest.now c.args.name.now c.requires c.in_default.ensures c.in-None.ensures
