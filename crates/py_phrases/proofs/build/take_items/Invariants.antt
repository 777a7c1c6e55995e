use Rattle.std.proofs.Common.{◌≡◌, ◌-◌, reverse}
use Rattle.py_tree.specs.Syntax as x
use Rattle.py_tree.specs.Joined.{expressions_of}
use Rattle.py_phrases.specs.Emitted.{take_items}
use Rattle.py_phrases.specs.Stacks.{trees_of}
use Rattle.py_phrases.proofs.build.take_items.Given as goal

abbrev pub invariant-loop : goal.invariant-loop
invariant-loop l = take_items (l.count - l.counter) (expressions_of (reverse l.items.items)) (trees_of l.trees.items) ≡ take_items l.count x.end_of_expressions (trees_of l.fn.trees.items)
