use Rattle.std.proofs.Common.{◌≡◌, ◌++◌, length, reverse}
use Rattle.module_load.proofs.preparing.last_first.Given as goal

abbrev pub invariant-loop-line : goal.invariant-loop-line
invariant-loop-line l = l.turned ++ reverse l.lines ≡ reverse l.fn.lines

abbrev pub decreases-loop-line : goal.decreases-loop-line
decreases-loop-line l = length l.lines
