use Rattle.py_tree.specs.Joined.{expression_of}
use Rattle.py_tree.specs.Nesting.{nesting}
use Rattle.py_expr.specs.Statements.{AllOfList}
use Rattle.py_expr.proofs.Wholes.{some_whole, none_whole}
use Rattle.py_expr.proofs.SimpleLines.{is_nil, not_nil, return_alone, return_there, no_return}
use Rattle.py_expr.proofs.worded.returned.Goals as goal

pub returns-then-is_empty : goal.returns-then-is_empty
returns-then-is_empty c = return_alone c.args.tokens.now (is_nil c.args.tokens.now c.if-is_empty.ensures)

pub returns-in-Some : goal.returns-in-Some
returns-in-Some c = return_there c.args.tokens.now c.in-Some.value c.returning.result (some_whole c.in-Some.is c.in_ok-value.ensures) c.returning.ensures

pub returns-in-None : goal.returns-in-None
returns-in-None c = no_return c.args.tokens.now (not_nil c.args.tokens.now c.if-is_empty.ensures) (none_whole AllOfList expression_of nesting c.args.tokens.now c.in-None.is c.in_ok-value.ensures)
