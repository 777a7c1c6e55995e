-- A call that ends, as the code finds it.
use Rattle.std.proofs.Common.{◌≡◌, take, List, [], ◌∷◌, Option, Some, Result, Ok, Err, IfOk, ap, subst, ◌∙◌}
use Rattle.std.specs.declared.alloc.AllocError.{AllocError}
use Rattle.py_tree.specs.Syntax.{Text}
use Rattle.py_phrases.specs.declared.machine.Frame as code
use Rattle.py_phrases.specs.declared.machine.Mode.{Mode}
use Rattle.py_phrases.specs.declared.reader.Reader.{Reader}
use Rattle.py_phrases.specs.declared.call.Call.{Call}
use Rattle.py_phrases.specs.Machine as m
use Rattle.py_phrases.specs.Views.{frames_of, steps_of, rest, moved}
use Rattle.py_phrases.specs.Readers.{Acts, calls}

pub called_acts : (old mid new : Reader) (name : Text) (call : Call) (frames : List code.Frame) (r : Result (Option Mode) AllocError) → frames ≡ old.frames.items → calls frames (name ∷ []) (Some call)
    → mid.frames.items ≡ take call.below old.frames.items → mid.steps.items ≡ old.steps.items
    → IfOk r (Acts (λ fs o. Some (m.state m.Have fs (m.MakeCall call.args call.keywords ∷ o))) mid new) → IfOk r (Acts (λ fs o. m.call (name ∷ []) (rest fs) o) old new)
called_acts old mid new name call frames (Err e) same found f s h = tt
called_acts old mid new name call frames (Ok next) same found f s h =
    let F = frames_of old.frames.items in
    let O = steps_of old.steps.items in
    let here = subst (λ l. calls l (name ∷ []) (Some call)) same found O in
    h ∙ ap (λ l. moved (Some (m.state m.Have (frames_of l) (m.MakeCall call.args call.keywords ∷ steps_of mid.steps.items))) F O) f
    ∙ ap (λ l. moved (Some (m.state m.Have (frames_of (take call.below old.frames.items)) (m.MakeCall call.args call.keywords ∷ steps_of l))) F O) s
    ∙ ap (λ x. moved x F O) here
