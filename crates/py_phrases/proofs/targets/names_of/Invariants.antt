use Rattle.std.proofs.Common.{◌≡◌, take}
use Rattle.py_phrases.specs.TargetSteps.{names_put}
use Rattle.py_phrases.specs.Views.{steps_of}
use Rattle.py_phrases.proofs.targets.names_of.Given as goal

abbrev pub invariant-loop-step : goal.invariant-loop-step
invariant-loop-step l = l.names ≡ names_put (steps_of (take l.step-index l.steps))
