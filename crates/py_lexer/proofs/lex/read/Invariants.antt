use Rattle.py_lexer.proofs.WholeText.{ReadTo, left}
use Rattle.py_lexer.proofs.lex.read.Given as goal

abbrev pub invariant-loop-rest : goal.invariant-loop-rest
invariant-loop-rest l = ReadTo l.text l.reader l.place l.rest

abbrev pub decreases-loop-rest : goal.decreases-loop-rest
decreases-loop-rest l = left l.place l.rest
