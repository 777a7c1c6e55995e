-- The comment begins at the place that was found.
use Rattle.py_lexer.proofs.Cuts.{before_first_place, before_no_place}
use Rattle.py_lexer.proofs.marker.before_comment.Goals as goal

pub returns-in-Some : goal.returns-in-Some
returns-in-Some c = before_first_place _ _ _ c.in-Some.ensures

pub returns-in-None : goal.returns-in-None
returns-in-None c = before_no_place _ _ c.in-None.ensures
