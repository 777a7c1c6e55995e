use Rattle.std.proofs.Common.{length, reverse}
use Rattle.py_blocks.specs.Rows.{rows_of}
use Rattle.py_blocks.specs.Views.{state_of}
use Rattle.py_blocks.proofs.Reading.{SoFar}
use Rattle.py_blocks.proofs.building.read_all.Given as goal

abbrev pub invariant-loop-row : goal.invariant-loop-row
invariant-loop-row l = SoFar (rows_of (reverse l.fn.left)) l.left (state_of l.builder) l.line

abbrev pub decreases-loop-row : goal.decreases-loop-row
decreases-loop-row l = length l.left
