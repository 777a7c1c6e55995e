use Rattle.py_phrases.proofs.Nested.{one_alone}
use Rattle.py_phrases.proofs.nesting.nesting_of.Goals as goal

pub returns-in-len1 : goal.returns-in-len1
returns-in-len1 c = one_alone c.args.steps.now c.in-len1.len_at_least c.in-len1.len_below
