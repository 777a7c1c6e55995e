-- A text has no more lines than bytes.
use Rattle.py_lexer.proofs.Cuts.{length-lines}
use Rattle.py_lexer.proofs.lines.Lines.new.Goals as goal

pub returns-clause-few : goal.returns-clause-few
returns-clause-few c = length-lines c.args.text.now
