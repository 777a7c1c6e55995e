use Rattle.std.proofs.Common.{◌≡◌, length}
use Rattle.py_phrases.specs.Machine.{close}
use Rattle.py_phrases.specs.Views.{frames_of, steps_of}
use Rattle.py_phrases.proofs.reader.Reader.close.Given as goal

abbrev pub invariant-loop-frame : goal.invariant-loop-frame
invariant-loop-frame l = close l.level (frames_of l.self.frames.items) (steps_of l.self.steps.items) ≡ close l.level (frames_of l.fn.self.frames.items) (steps_of l.fn.self.steps.items)

abbrev pub decreases-loop-frame : goal.decreases-loop-frame
decreases-loop-frame l = length l.self.frames.items
