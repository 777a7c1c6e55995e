use Rattle.std.proofs.Common.{◌≡◌, take}
use Rattle.py_tree.proofs.+copy_expr.Given as goal

abbrev pub invariant-copying::expressions::copy_all-loop-item : goal.invariant-copying::expressions::copy_all-loop-item
invariant-copying::expressions::copy_all-loop-item l = l.copy ≡ take l.item-index l.items

abbrev pub invariant-copying::expressions::copy_keywords-loop-keyword : goal.invariant-copying::expressions::copy_keywords-loop-keyword
invariant-copying::expressions::copy_keywords-loop-keyword l = l.copy ≡ take l.keyword-index l.keywords

abbrev pub invariant-copying::expressions::copy_pairs-loop-pair : goal.invariant-copying::expressions::copy_pairs-loop-pair
invariant-copying::expressions::copy_pairs-loop-pair l = l.copy ≡ take l.pair-index l.pairs
