-- No definition of the language: what the code keeps as the machine keeps it, and what it does with a token as the machine does.
use Rattle.std.specs.Prelude.{◌≡◌, take, drop, List, ◌∷◌, Option, Some, None}
use Rattle.py_lexer.specs.declared.token.Token.{Token}
use Rattle.py_phrases.specs.declared.machine.Mode as code
use Rattle.py_phrases.specs.declared.machine.Frame.{Frame}
use Rattle.py_phrases.specs.declared.reader.Reader.{Reader}
use Rattle.py_phrases.specs.declared.call.Call.{Call}
use Rattle.py_phrases.specs.declared.phrase.Phrase.{Phrase}
use Rattle.py_phrases.specs.declared.phrase.Stop.{Stop}
use Rattle.py_tree.specs.Syntax.{Text}
use Rattle.py_phrases.specs.Grammar.{Tokens, Level}
use Rattle.py_phrases.specs.Machine as m
use Rattle.py_phrases.specs.Machine.{Frames, Mode, State, Done, Read, state, done, call, step, closed_before, Have, Compared, MakeCall, read_to, with_rest, finish, run}
use Rattle.py_phrases.specs.Views.{frames_of, steps_of, mode_of, maybe_mode, rest, Moved, moved}

abbrev pub kept : Reader → Done
kept r = done (frames_of r.frames.items) (steps_of r.steps.items)

abbrev pub moved_to : Option code.Mode → Reader → Moved
moved_to next r = record { next = maybe_mode next; frames = frames_of r.frames.items; steps = steps_of r.steps.items }

-- from the old reader to the new one as the machine's function does, and nothing is changed where that gives None
abbrev pub Acts : (Frames → m.Steps → Option State) → Reader → Reader → Option code.Mode → Type 0
Acts act old new next = moved_to next new ≡ moved (act (frames_of old.frames.items) (steps_of old.steps.items)) (frames_of old.frames.items) (steps_of old.steps.items)

-- the call that is found below the newest of the frames is that of the machine's function
abbrev pub ends_call : List Frame → Option Call → m.Steps → Option State
ends_call frames None o = None
ends_call frames (Some c) o = Some (state Have (frames_of (take c.below frames)) (MakeCall c.args c.keywords ∷ o))

abbrev pub calls : List Frame → List Text → Option Call → Type 0
calls frames names found = (o : m.Steps) → ends_call frames found o ≡ call names (rest (frames_of frames)) o

-- what a token ends where it is read
abbrev pub closing : Mode → Token → Frames → m.Steps → Done
closing Have token fs o = closed_before token fs o
closing Compared token fs o = closed_before token fs o
closing _ token fs o = done fs o

-- as the machine reads the token; where it gives None, only what the token ends has been ended
abbrev pub Steps : Mode → Token → Reader → Reader → Option code.Mode → Type 0
Steps mode token old new next =
    let fs = frames_of old.frames.items in
    let o = steps_of old.steps.items in
    let d = closing mode token fs o in
    moved_to next new ≡ moved (step mode fs o token) d.frames d.steps

-- what the machine reads, as the code keeps it
abbrev pub as_read : Option Phrase → Option Read
as_read None = None
as_read (Some phrase) = Some (read_to (steps_of phrase.steps.items) phrase.rest.now)

-- where the reading stops, it goes on as the machine does
abbrev pub stopped : Option Stop → Tokens → Reader → Option Read
stopped None tokens r = None
stopped (Some s) tokens r = with_rest (drop s.place tokens) (finish (mode_of s.mode) (frames_of r.frames.items) (steps_of r.steps.items))

abbrev pub Stops : Level → Tokens → Reader → Reader → Option Stop → Type 0
Stops k tokens old new stop = stopped stop tokens new ≡ run k tokens m.Next (frames_of old.frames.items) (steps_of old.steps.items)
