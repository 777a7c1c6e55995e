use Rattle.std.proofs.Common.{◌≡◌, take}
use Rattle.py_tree.proofs.+copy_stmt.Given as goal

abbrev pub invariant-copying::statements::copy_all-loop-item : goal.invariant-copying::statements::copy_all-loop-item
invariant-copying::statements::copy_all-loop-item l = l.copy ≡ take l.item-index l.item-items

abbrev pub invariant-copying::statements::copy_branches-loop-item : goal.invariant-copying::statements::copy_branches-loop-item
invariant-copying::statements::copy_branches-loop-item l = l.copy ≡ take l.item-index l.item-items

abbrev pub invariant-copying::statements::copy_clauses-loop-item : goal.invariant-copying::statements::copy_clauses-loop-item
invariant-copying::statements::copy_clauses-loop-item l = l.copy ≡ take l.item-index l.item-items
