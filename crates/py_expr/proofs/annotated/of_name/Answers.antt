use Rattle.py_expr.specs.Statements.{Annotated, annotation_of, annotation_nesting}
use Rattle.py_expr.proofs.SimpleLines.{name_parts}
use Rattle.py_expr.proofs.Wholes.{none_whole}
use Rattle.py_expr.proofs.annotated.of_name.Goals as goal

pub returns-in-Some : goal.returns-in-Some
returns-in-Some c =
    name_parts c.args.name.now c.in_ok-target.target c.args.tokens.now c.in_ok-annotation.field-0 c.in-Some.annotation c.both.result c.in_ok-target.ensures.equal c.in-Some.is c.in_ok-annotation.ensures c.both.ensures

pub returns-in-None : goal.returns-in-None
returns-in-None c = none_whole Annotated annotation_of annotation_nesting c.args.tokens.now c.in-None.is c.in_ok-annotation.ensures
