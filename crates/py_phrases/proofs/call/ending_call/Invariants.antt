use Rattle.std.proofs.Common.{◌≡◌, ◌≤◌, length, take, [], ◌∷◌}
use Rattle.py_phrases.specs.Machine.{Steps, call}
use Rattle.py_phrases.specs.Views.{frames_of, texts_of, rest}
use Rattle.py_phrases.proofs.call.ending_call.Given as goal

abbrev pub invariant-loop-other : goal.invariant-loop-other
invariant-loop-other l = (l.count ≤ length l.frames) × ((o : Steps) → call (texts_of l.names.items) (frames_of (take l.count l.frames)) o ≡ call (l.fn.name ∷ []) (rest (frames_of l.fn.frames)) o)

abbrev pub decreases-loop-other : goal.decreases-loop-other
decreases-loop-other l = l.count
