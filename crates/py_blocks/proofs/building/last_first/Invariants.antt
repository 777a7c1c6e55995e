use Rattle.std.proofs.Common.{◌≡◌, ◌++◌, length, reverse}
use Rattle.py_blocks.proofs.building.last_first.Given as goal

abbrev pub invariant-loop-form : goal.invariant-loop-form
invariant-loop-form l = l.turned ++ reverse l.forms ≡ reverse l.fn.forms

abbrev pub decreases-loop-form : goal.decreases-loop-form
decreases-loop-form l = length l.forms
