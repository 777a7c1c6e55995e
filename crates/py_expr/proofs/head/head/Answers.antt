use Rattle.std.proofs.lemmas.Result.{IfOk-weaker}
use Rattle.py_expr.specs.Forms.{head_of}
use Rattle.py_expr.specs.Depth.{head_nesting}
use Rattle.py_expr.specs.Lines.{HeadAt}
use Rattle.py_expr.specs.LineEnds.{Anything}
use Rattle.py_expr.specs.Readings.{FoundAt}
use Rattle.py_expr.specs.Heads.{FoundBehind}
use Rattle.py_expr.proofs.Heads.{behind_word, no_word}
use Rattle.py_expr.proofs.head.head.Goals as goal

pub returns-in-Some : goal.returns-in-Some
returns-in-Some c =
    IfOk-weaker c.head_behind.result (FoundBehind c.in-Some.word c.in-Some.rest.now) (FoundAt HeadAt Anything head_of head_nesting c.args.tokens.now)
    (λ found h. behind_word c.args.tokens.now c.in-Some.rest.now c.in-Some.word found c.in-Some.ensures h) c.head_behind.ensures

pub returns-in-None : goal.returns-in-None
returns-in-None c = no_word c.args.tokens.now c.in-None.ensures
