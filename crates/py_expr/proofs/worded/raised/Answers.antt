use Rattle.py_tree.specs.Joined.{expression_of}
use Rattle.py_tree.specs.Nesting.{nesting}
use Rattle.py_expr.specs.Statements.{AllOfExpression}
use Rattle.py_expr.proofs.Wholes.{some_whole, none_whole}
use Rattle.py_expr.proofs.SimpleLines.{is_nil, not_nil, raise_alone, raise_there, no_raise}
use Rattle.py_expr.proofs.worded.raised.Goals as goal

pub returns-then-is_empty : goal.returns-then-is_empty
returns-then-is_empty c = raise_alone c.args.tokens.now (is_nil c.args.tokens.now c.if-is_empty.ensures)

pub returns-in-Some : goal.returns-in-Some
returns-in-Some c = raise_there c.args.tokens.now c.in-Some.value c.raising.result (some_whole c.in-Some.is c.in_ok-value.ensures) c.raising.ensures

pub returns-in-None : goal.returns-in-None
returns-in-None c = no_raise c.args.tokens.now (not_nil c.args.tokens.now c.if-is_empty.ensures) (none_whole AllOfExpression expression_of nesting c.args.tokens.now c.in-None.is c.in_ok-value.ensures)
