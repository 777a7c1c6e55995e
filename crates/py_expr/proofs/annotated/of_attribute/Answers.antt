use Rattle.std.proofs.Common.{ap, ◌∙◌}
use Rattle.py_tree.specs.Joined.{expression_of}
use Rattle.py_expr.specs.Statements.{Annotated, annotation_of, annotation_nesting}
use Rattle.py_expr.proofs.SimpleLines.{attribute_parts}
use Rattle.py_expr.proofs.Wholes.{none_whole}
use Rattle.py_expr.proofs.annotated.of_attribute.Goals as goal

pub returns-in-Some : goal.returns-in-Some
returns-in-Some c =
    attribute_parts c.args.object.now c.args.name.now c.in_ok-member.member c.in_ok-object.object c.args.tokens.now c.in_ok-annotation.field-0 c.in-Some.annotation c.both.result
    (ap expression_of c.in_ok-object.ensures ∙ c.in_ok-named.ensures) c.in_ok-member.ensures.equal c.in-Some.is c.in_ok-annotation.ensures c.both.ensures

pub returns-in-None : goal.returns-in-None
returns-in-None c = none_whole Annotated annotation_of annotation_nesting c.args.tokens.now c.in-None.is c.in_ok-annotation.ensures
