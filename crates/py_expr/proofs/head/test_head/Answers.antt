use Rattle.py_tree.specs.Joined.{expression_of}
use Rattle.py_tree.specs.Nesting.{nesting}
use Rattle.py_expr.specs.LineEnds.{Anything}
use Rattle.py_expr.specs.Readings.{BeforeColon}
use Rattle.py_expr.proofs.FoundAt.{some_found, none_found}
use Rattle.py_expr.proofs.Heads.{test_found, no_test}
use Rattle.py_expr.proofs.head.test_head.Goals as goal

pub returns-in-Some : goal.returns-in-Some
returns-in-Some c = test_found c.args.head c.args.tokens.now c.in-Some.found.rest.now c.in-Some.found.built c.testing.result (some_found c.in-Some.is c.in_ok-found.ensures) c.testing.ensures

pub returns-in-None : goal.returns-in-None
returns-in-None c = no_test c.args.head c.args.tokens.now (none_found BeforeColon Anything expression_of nesting c.args.tokens.now c.in-None.is c.in_ok-found.ensures)
