use Rattle.py_phrases.specs.Grammar.{L}
use Rattle.py_phrases.proofs.Fronts.{fronts}
use Rattle.py_phrases.proofs.phrase.list_at.Goals as goal

pub returns : goal.returns
returns c = record { phrase = fronts L tt c.args.tokens.now c.phrase_at.result c.phrase_at.ensures }
