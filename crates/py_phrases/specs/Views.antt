-- No definition of the language: the machine's lists as the code keeps them.
use Rattle.std.specs.Prelude.{ℕ, List, [], ◌∷◌, map, reverse, Option, Some, None}
use denote.Ref.{Bor}
use Rattle.py_phrases.specs.declared.machine.Step as code_step
use Rattle.py_phrases.specs.declared.machine.Step.TheVariants as s
use Rattle.py_phrases.specs.declared.machine.Frame as code_frame
use Rattle.py_phrases.specs.declared.machine.Frame.TheVariants as f
use Rattle.py_phrases.specs.declared.machine.Mode as code_mode
use Rattle.py_phrases.specs.declared.machine.Mode.TheVariants as d
use Rattle.py_phrases.specs.declared.machine.Whole as code_whole
use Rattle.py_phrases.specs.declared.machine.Whole.TheVariants as w
use Rattle.py_phrases.specs.Grammar.{Level, E, L}
use Rattle.py_phrases.specs.Machine as m

abbrev pub step_of : code_step.Step → m.Step
step_of (s.PutName n) = m.PutName n.now
step_of (s.PutInt n) = m.PutInt n
step_of (s.PutText u) = m.PutText u.now
step_of (s.JoinText u) = m.JoinText u.now
step_of (s.PutConstant k) = m.PutConstant k
step_of s.Grouped = m.Grouped
step_of (s.MakeTuple n) = m.MakeTuple n
step_of (s.MakeList n) = m.MakeList n
step_of (s.MakeDict n) = m.MakeDict n
step_of (s.MakeUnary op) = m.MakeUnary op
step_of (s.MakeBinary op) = m.MakeBinary op
step_of (s.MakeCompare op) = m.MakeCompare op
step_of (s.MakeIs negated k) = m.MakeIs negated k
step_of s.MakeNot = m.MakeNot
step_of s.MakeAnd = m.MakeAnd
step_of s.MakeOr = m.MakeOr
step_of s.MakeCond = m.MakeCond
step_of (s.MakeAttr n) = m.MakeAttr n.now
step_of s.MakeIndex = m.MakeIndex
step_of (s.MakeCall n k) = m.MakeCall n k

-- newest first
abbrev pub steps_of : List code_step.Step → m.Steps
steps_of steps = map step_of (reverse steps)

abbrev pub frame_of : code_frame.Frame → m.Frame
frame_of (f.Line n) = m.Line n
frame_of f.Lone = m.Lone
frame_of (f.Group n) = m.Group n
frame_of (f.Index n) = m.Index n
frame_of (f.Listed n) = m.Listed n
frame_of (f.Entry n) = m.Entry n
frame_of (f.Value n) = m.Value n
frame_of (f.Call n) = m.Call n
frame_of (f.Key name) = m.Key name.now
frame_of (f.Named name) = m.Named name.now
frame_of (f.Sign op) = m.Sign op
frame_of (f.Product op) = m.Product op
frame_of (f.Sum op) = m.Sum op
frame_of (f.Compare op) = m.Compare op
frame_of f.Negation = m.Negation
frame_of f.And = m.And
frame_of f.Or = m.Or
frame_of f.Test = m.Test
frame_of f.Other = m.Other

abbrev pub frames_of : List code_frame.Frame → m.Frames
frames_of frames = map frame_of (reverse frames)

abbrev pub maybe_frame : Option code_frame.Frame → Option m.Frame
maybe_frame None = None
maybe_frame (Some frame) = Some (frame_of frame)

abbrev pub maybe_step : Option code_step.Step → Option m.Step
maybe_step None = None
maybe_step (Some step) = Some (step_of step)

abbrev pub mode_of : code_mode.Mode → m.Mode
mode_of d.Want = m.Want
mode_of d.Next = m.Next
mode_of d.Have = m.Have
mode_of d.Dotted = m.Dotted
mode_of d.NotIn = m.NotIn
mode_of d.Is = m.Is
mode_of d.IsNot = m.IsNot
mode_of d.Compared = m.Compared

abbrev pub maybe_mode : Option code_mode.Mode → Option m.Mode
maybe_mode None = None
maybe_mode (Some mode) = Some (mode_of mode)

abbrev pub level_of : code_whole.Whole → Level
level_of w.List = L
level_of w.Lone = E

abbrev pub top : {A : Type 0} → List A → Option A
top [] = None
top (a ∷ st) = Some a

abbrev pub rest : {A : Type 0} → List A → List A
rest [] = []
rest (a ∷ st) = st

-- what is pointed to, newest first
abbrev pub texts_of : List (Bor (List ℕ)) → List (List ℕ)
texts_of names = map (λ name. name.now) (reverse names)

-- where the machine stands behind a token: with no mode, where it stood
pub record Moved : Type 0 where
  pub next : Option m.Mode
  pub frames : m.Frames
  pub steps : m.Steps

abbrev pub moved : Option m.State → m.Frames → m.Steps → Moved
moved None fs o = record { next = None; frames = fs; steps = o }
moved (Some s) fs o = record { next = Some s.mode; frames = s.frames; steps = s.steps }
