use Rattle.py_phrases.specs.Grammar.{E}
use Rattle.py_phrases.proofs.Fronts.{fronts}
use Rattle.py_phrases.proofs.phrase.expression_at.Goals as goal

pub returns : goal.returns
returns c = record { phrase = fronts E tt c.args.tokens.now c.phrase_at.result c.phrase_at.ensures }
