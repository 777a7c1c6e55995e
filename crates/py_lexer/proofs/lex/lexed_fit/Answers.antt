use Rattle.py_lexer.proofs.Fitting.{lexed_fit}
use Rattle.py_lexer.proofs.lex.lexed_fit.Goals as goal

pub returns : goal.returns
returns c = λ bytes lines h. lexed_fit h
