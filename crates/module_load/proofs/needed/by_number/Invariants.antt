use Rattle.std.proofs.Common.{take}
use Rattle.module_load.specs.Needs.{IsTableOf}
use Rattle.module_load.proofs.needed.by_number.Given as goal

abbrev pub invariant-loop-row : goal.invariant-loop-row
invariant-loop-row l = IsTableOf l.count (take l.row-index l.row-items) l.table.items
