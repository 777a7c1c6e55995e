use Rattle.py_expr.proofs.SimpleLines.{begun_ok, no_front}
use Rattle.py_expr.proofs.simple.plain.Goals as goal

pub returns-in-Some : goal.returns-in-Some
returns-in-Some c = begun_ok c.args.tokens.now c.in_ok-phrase.field-0 c.in-Some.phrase c.begun_by.result c.in-Some.is c.in_ok-phrase.ensures.phrase c.requires c.begun_by.ensures

pub returns-in-None : goal.returns-in-None
returns-in-None c = no_front c.args.tokens.now c.in_ok-phrase.field-0 c.in-None.is c.in_ok-phrase.ensures.phrase c.requires
