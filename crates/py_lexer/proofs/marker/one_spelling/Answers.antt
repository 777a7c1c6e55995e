-- The test and the spelling agree on each line.
use Rattle.py_lexer.proofs.Spelling.{marker_line_spelled}
use Rattle.py_lexer.proofs.marker.one_spelling.Goals as goal

pub returns : goal.returns
returns c = marker_line_spelled
