use Rattle.std.proofs.Common.{◌≡◌, ◌++◌, length, reverse}
use Rattle.module_load.specs.RightDecisions as rule
use Rattle.module_load.proofs.deciding.held.Given as goal

abbrev pub invariant-loop-name : goal.invariant-loop-name
invariant-loop-name l = rule.held l.modules l.names ++ reverse l.rows.items ≡ rule.held l.modules l.fn.names

abbrev pub decreases-loop-name : goal.decreases-loop-name
decreases-loop-name l = length l.names
