use Rattle.py_expr.specs.Depth.{head_nesting}
use Rattle.py_expr.specs.Forms.{head_of}
use Rattle.py_expr.specs.LineEnds.{Anything}
use Rattle.py_expr.specs.Lines.{HeadAt}
use Rattle.py_expr.proofs.FoundAt.{some_found, none_found}
use Rattle.py_expr.proofs.WholeLines.{headed_ok}
use Rattle.py_expr.proofs.line.form.Goals as goal

pub returns-in-Some : goal.returns-in-Some
returns-in-Some c = headed_ok c.args.tokens.now c.in-Some.head.rest.now c.in-Some.head.built c.headed.result (some_found c.in-Some.is c.in_ok-head.ensures) c.headed.ensures

pub unheaded-requires : goal.unheaded-requires
unheaded-requires c = λ r h d. none_found HeadAt Anything head_of head_nesting c.args.tokens.now c.in-None.is c.in_ok-head.ensures r h d tt
