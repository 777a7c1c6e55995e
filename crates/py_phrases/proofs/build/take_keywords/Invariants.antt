use Rattle.std.proofs.Common.{◌≡◌, ◌-◌, reverse}
use Rattle.py_tree.specs.Syntax as x
use Rattle.py_tree.specs.Joined.{keywords_of}
use Rattle.py_phrases.specs.Emitted.{take_keywords}
use Rattle.py_phrases.specs.Stacks.{trees_of}
use Rattle.py_phrases.proofs.build.take_keywords.Given as goal

abbrev pub invariant-loop : goal.invariant-loop
invariant-loop l = take_keywords (l.count - l.counter) (keywords_of (reverse l.keywords.items)) (trees_of l.trees.items) ≡ take_keywords l.count x.end_of_keywords (trees_of l.fn.trees.items)
