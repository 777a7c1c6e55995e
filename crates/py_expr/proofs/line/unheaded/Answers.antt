use Rattle.py_tree.specs.Joined.{kind_of}
use Rattle.py_expr.specs.Depth.{kind_nesting}
use Rattle.py_expr.specs.Lines.{Simple}
use Rattle.py_expr.proofs.Wholes.{some_whole, none_whole}
use Rattle.py_expr.proofs.WholeLines.{simple_there, no_line}
use Rattle.py_expr.proofs.line.unheaded.Goals as goal

pub returns-in-Some : goal.returns-in-Some
returns-in-Some c = simple_there c.args.tokens.now c.in-Some.kind c.simple.result (some_whole c.in-Some.is c.in_ok-kind.ensures) c.simple.ensures

pub returns-in-None : goal.returns-in-None
returns-in-None c = no_line c.args.tokens.now c.requires (none_whole Simple kind_of kind_nesting c.args.tokens.now c.in-None.is c.in_ok-kind.ensures)
