use Rattle.py_phrases.proofs.Grouping.{left_grouped}
use Rattle.py_phrases.proofs.laws.chains_group_left.Goals as goal

pub returns : goal.returns
returns c = left_grouped
