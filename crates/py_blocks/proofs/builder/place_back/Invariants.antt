use Rattle.std.proofs.Common.{◌≡◌, length}
use Rattle.py_blocks.specs.Machine as machine
use Rattle.py_blocks.specs.Rows.{row_of}
use Rattle.py_blocks.specs.Views.{block_of, frames_of}
use Rattle.py_blocks.proofs.builder.place_back.Given as goal

abbrev pub invariant-loop-inner : goal.invariant-loop-inner
invariant-loop-inner l = machine.place_back (row_of l.row) (frames_of l.outer) (block_of l.inner) ≡ machine.place_back (row_of l.fn.row) (frames_of l.fn.outer) (block_of l.fn.inner)

abbrev pub decreases-loop-inner : goal.decreases-loop-inner
decreases-loop-inner l = length (frames_of l.outer)
