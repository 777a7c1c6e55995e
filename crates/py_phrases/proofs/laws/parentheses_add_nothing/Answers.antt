use Rattle.py_phrases.proofs.Grouping.{grouped, grouped_alone}
use Rattle.py_phrases.proofs.laws.parentheses_add_nothing.Goals as goal

pub returns-clause-anywhere : goal.returns-clause-anywhere
returns-clause-anywhere c = grouped

pub returns-clause-alone : goal.returns-clause-alone
returns-clause-alone c = grouped_alone
