use Rattle.std.proofs.Common.{◌≡◌, ◌-◌, reverse}
use Rattle.py_tree.specs.Syntax as x
use Rattle.py_tree.specs.Joined.{pairs_of}
use Rattle.py_phrases.specs.Emitted.{take_pairs}
use Rattle.py_phrases.specs.Stacks.{trees_of}
use Rattle.py_phrases.proofs.build.take_pairs.Given as goal

abbrev pub invariant-loop : goal.invariant-loop
invariant-loop l = take_pairs (l.count - l.counter) (pairs_of (reverse l.pairs.items)) (trees_of l.trees.items) ≡ take_pairs l.count x.end_of_pairs (trees_of l.fn.trees.items)
