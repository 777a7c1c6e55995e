use Rattle.py_tree.specs.Joined.{maybe_of}
use Rattle.py_expr.specs.Lines.{Annotation, Default}
use Rattle.py_expr.specs.LineEnds.{EndsAnnotation, EndsParameter}
use Rattle.py_expr.specs.Depth.{maybe_nesting}
use Rattle.py_expr.proofs.FoundAt.{parameter_found, no_kind, no_default_behind, some_found, none_found}
use Rattle.py_expr.proofs.parameters.parameter.Goals as goal

pub returns-in_default-2 : goal.returns-in_default-2
returns-in_default-2 c = no_kind c.args.tokens.now c.in-Some.rest.now c.in-Some.name.now c.in-Some.ensures (none_found Annotation EndsAnnotation maybe_of maybe_nesting c.in-Some.rest.now c.in_default-2.is c.in_ok-kind.ensures)

pub returns-in_default-3 : goal.returns-in_default-3
returns-in_default-3 c =
    no_default_behind c.args.tokens.now c.in-Some.rest.now c.in-Some-2.kind.rest.now c.in-Some.name.now c.in-Some-2.kind.built c.in-Some.ensures (some_found c.in-Some-2.is c.in_ok-kind.ensures) (none_found Default EndsParameter maybe_of maybe_nesting c.in-Some-2.kind.rest.now c.in_default-3.is c.in_ok-default.ensures)

pub returns : goal.returns
returns c =
    parameter_found c.args.tokens.now c.in-Some.rest.now c.in-Some-2.kind.rest.now c.in-Some-3.default.rest.now c.in-Some.name.now c.in-Some-2.kind.built c.in-Some-3.default.built c.in_ok-built_parameter.field-0 c.begins_default.result
    c.in-Some.ensures (some_found c.in-Some-2.is c.in_ok-kind.ensures) (some_found c.in-Some-3.is c.in_ok-default.ensures) c.begins_default.ensures c.in_ok-built_parameter.ensures
