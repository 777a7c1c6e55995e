use Rattle.py_meaning.proofs.Pieces.{pieces_join}
use Rattle.py_meaning.proofs.laws.pieces_join.Goals as goal

pub returns : goal.returns
returns c = pieces_join
