use Rattle.std.proofs.Common.{◌≡◌, take}
use Rattle.py_tree.proofs.copying.ItemsDuplicate.duplicate.Given as goal

abbrev pub invariant-loop-item : goal.invariant-loop-item
invariant-loop-item g l = l.copy ≡ take l.item-index l.item-items
