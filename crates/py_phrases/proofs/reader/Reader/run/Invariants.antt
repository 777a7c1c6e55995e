use Rattle.std.proofs.Common.{◌≡◌, drop}
use Rattle.py_phrases.specs.Machine as m
use Rattle.py_phrases.specs.Machine.{run}
use Rattle.py_phrases.specs.Views.{mode_of, level_of, frames_of, steps_of}
use Rattle.py_phrases.proofs.reader.Reader.run.Given as goal

abbrev pub invariant-loop-place : goal.invariant-loop-place
invariant-loop-place l =
    run (level_of l.whole) (drop l.place l.tokens) (mode_of l.mode) (frames_of l.self.frames.items) (steps_of l.self.steps.items)
    ≡ run (level_of l.whole) l.tokens m.Next (frames_of l.fn.self.frames.items) (steps_of l.fn.self.steps.items)
