use Rattle.std.proofs.Common.{IfOk, subst}
use Rattle.py_phrases.specs.Grammar.{Tokens}
use Rattle.py_expr.specs.Depth.{head_nesting}
use Rattle.py_expr.specs.Forms.{head_of}
use Rattle.py_expr.specs.LineEnds.{Anything}
use Rattle.py_expr.specs.Lines.{HeadAt}
use Rattle.py_expr.specs.Readings.{IsFound}
use Rattle.py_expr.specs.Statements.{FormAt}
use Rattle.py_expr.proofs.line.headed.Goals as goal

pub returns : goal.returns
returns c =
    subst (λ h. IfOk c.behind_head.result (λ found. (s : Tokens) → IsFound HeadAt Anything head_of head_nesting s h c.args.head.rest.now → FormAt s found)) c.in_ok-head.ensures c.behind_head.ensures
