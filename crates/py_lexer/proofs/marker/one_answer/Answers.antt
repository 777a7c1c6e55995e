-- Neither of two first markers stands before the other.
use Rattle.py_lexer.proofs.FirstMarkers.{same_first_marker}
use Rattle.py_lexer.proofs.marker.one_answer.Goals as goal

pub returns : goal.returns
returns c = same_first_marker
