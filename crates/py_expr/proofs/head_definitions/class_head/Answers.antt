use Rattle.py_tree.specs.Joined.{maybe_of}
use Rattle.py_expr.specs.Depth.{maybe_nesting}
use Rattle.py_expr.specs.LineEnds.{Anything}
use Rattle.py_expr.specs.Lines.{Base}
use Rattle.py_expr.proofs.FoundAt.{some_found, none_found}
use Rattle.py_expr.proofs.Heads.{class_found, no_class_name, no_base_behind}
use Rattle.py_expr.proofs.head_definitions.class_head.Goals as goal

pub returns-in_default : goal.returns-in_default
returns-in_default c = no_class_name c.args.tokens.now c.in_default.ensures

pub returns-in_ok-classing-in-Some-2 : goal.returns-in_ok-classing-in-Some-2
returns-in_ok-classing-in-Some-2 c =
    class_found c.args.tokens.now c.in-Some.rest.now c.in-Some-2.base.rest.now c.in-Some.name.now c.in-Some-2.base.built c.in_ok-classing-in-Some-2.field-0 c.in-Some.ensures (some_found c.in-Some-2.is c.in_ok-base.ensures)
    c.in_ok-classing-in-Some-2.ensures

pub returns-in-None : goal.returns-in-None
returns-in-None c = no_base_behind c.args.tokens.now c.in-Some.rest.now c.in-Some.name.now c.in-Some.ensures (none_found Base Anything maybe_of maybe_nesting c.in-Some.rest.now c.in-None.is c.in_ok-base.ensures)
