use Rattle.std.proofs.Common.{◌≡◌, take}
use Rattle.py_phrases.specs.Emitted.{trees}
use Rattle.py_phrases.specs.Views.{steps_of}
use Rattle.py_phrases.specs.Stacks.{trees_of}
use Rattle.py_phrases.proofs.build.build_all.Given as goal

abbrev pub invariant-loop-step : goal.invariant-loop-step
invariant-loop-step l = trees_of l.trees.items ≡ trees (steps_of (take l.step-index l.steps))
