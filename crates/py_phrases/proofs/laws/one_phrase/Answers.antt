use Rattle.py_phrases.proofs.Builds.{one_front}
use Rattle.py_phrases.proofs.laws.one_phrase.Goals as goal

pub returns : goal.returns
returns c = λ k s r q d e x h y h'. let same = one_front x h y h' in (same.tree, same.rest)
