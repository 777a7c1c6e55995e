use Rattle.std.proofs.Common.{◌≡◌, length}
use Rattle.py_blocks.specs.Machine as machine
use Rattle.py_blocks.specs.Views.{block_of, frames_of}
use Rattle.py_blocks.proofs.builder.close.Given as goal

abbrev pub invariant-loop-frame : goal.invariant-loop-frame
invariant-loop-frame l = machine.close (frames_of l.outer) (block_of l.inner) ≡ machine.close (frames_of l.fn.outer) (block_of l.fn.inner)

abbrev pub decreases-loop-frame : goal.decreases-loop-frame
decreases-loop-frame l = length (frames_of l.outer)
