use Rattle.std.proofs.Common.{length, reverse}
use Rattle.py_blocks.specs.Rows.{rows_of}
use Rattle.module_load.proofs.LineForms.{Remains}
use Rattle.module_load.proofs.preparing.forms_of.Given as goal

abbrev pub invariant-loop-line : goal.invariant-loop-line
invariant-loop-line l = Remains l.fn.lines (rows_of l.forms) (reverse l.left)

abbrev pub decreases-loop-line : goal.decreases-loop-line
decreases-loop-line l = length l.left
