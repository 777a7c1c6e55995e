use Rattle.std.proofs.Common.{subst}
use Rattle.py_tree.specs.Joined.{target_of}
use Rattle.py_expr.specs.LineEnds.{Anything}
use Rattle.py_expr.specs.Readings.{BeforeIn, IsNext}
use Rattle.py_expr.proofs.FoundAt.{some_found, none_found}
use Rattle.py_expr.proofs.Heads.{loop_found, no_loop, no_names}
use Rattle.py_expr.proofs.head.for_head.Goals as goal
use Rattle.py_phrases.specs.Targets.{target_nesting}

pub returns-in_default : goal.returns-in_default
returns-in_default c = no_names c.args.tokens.now (none_found BeforeIn Anything target_of target_nesting c.args.tokens.now c.in_default.is c.in_ok-target.ensures)

pub returns-in_ok-built-in-Some-2 : goal.returns-in_ok-built-in-Some-2
returns-in_ok-built-in-Some-2 c =
    loop_found c.args.tokens.now c.in-Some.target.rest.now c.in-Some.target.built (some_found c.in-Some.is c.in_ok-target.ensures) c.list_before_colon-items.result c.in-Some-2.parts c.in_ok-built-in-Some-2.built c.list_before_colon-items.ensures
    (subst (IsNext c.in-Some.target.built c.list_before_colon-items.result) c.in-Some-2.is c.in_ok-parts.ensures) c.in_ok-built-in-Some-2.ensures

pub returns-in-None : goal.returns-in-None
returns-in-None c =
    no_loop c.args.tokens.now c.in-Some.target.rest.now c.in-Some.target.built (some_found c.in-Some.is c.in_ok-target.ensures) c.list_before_colon-items.result c.list_before_colon-items.ensures
    (subst (IsNext c.in-Some.target.built c.list_before_colon-items.result) c.in-None.is c.in_ok-parts.ensures)
