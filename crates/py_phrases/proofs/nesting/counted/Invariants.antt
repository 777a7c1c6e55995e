use Rattle.std.proofs.Common.{◌≡◌, take, reverse}
use Rattle.py_phrases.specs.Emitted.{nestings}
use Rattle.py_phrases.specs.Views.{steps_of}
use Rattle.py_phrases.proofs.nesting.counted.Given as goal

abbrev pub invariant-loop-step : goal.invariant-loop-step
invariant-loop-step l = reverse l.numbers.items ≡ nestings (steps_of (take l.step-index l.steps))
