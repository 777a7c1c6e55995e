use Rattle.py_phrases.specs.Grammar.{E}
use Rattle.py_expr.proofs.FoundAt.{phrase_found}
use Rattle.py_expr.proofs.expressions.expression.Goals as goal

pub returns-in_ok-expression-in-Some : goal.returns-in_ok-expression-in-Some
returns-in_ok-expression-in-Some c =
    phrase_found E c.args.tokens.now c.in_ok-phrase.field-0 c.in-Some.phrase c.in_ok-expression-in-Some.field-0 c.in-Some.is c.in_ok-phrase.ensures.phrase c.in_ok-expression-in-Some.ensures.expression
