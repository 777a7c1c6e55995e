-- What holds of all runs: of functions, of the bodies of modules, and of calls from outside.
use Rattle.std.specs.Prelude.{◌≡◌, ◌≢◌, ℕ, suc, ◌+◌, ◌^◌, ◌<◌, ◌≤◌, List, [], length, ◌++◌, Bool, Option, None}
use Rattle.py_tree.specs.Syntax.{Text}
use Rattle.py_values.specs.declared.value.Home.{Home}
use Rattle.py_values.specs.declared.value.Home.TheVariants as home
use Rattle.heap_seg.specs.declared.rules.Answer.TheVariants.{Go}
use Rattle.gradual_types.specs.Values as v
use Rattle.py_values.specs.Builtins.{builtin_names}
use Rattle.symbols.specs.Words.{builtins}
use Rattle.gradual_types.specs.Values.{Value}
use Rattle.gradual_types.specs.States.{State}
use Rattle.py_meaning.specs.Acts.{Act, Run, Gives, Halts, Flow, tick}
use Rattle.py_meaning.specs.Modules.{World}
use Rattle.py_meaning.specs.Iterables.{over_list, over_range, while_true}
use Rattle.py_meaning.specs.Modes.{import_mode, entry_mode}
use Rattle.py_meaning.specs.Methods.{joined, pieces}
use Rattle.py_meaning.specs.Statements.{exec_all}
use Rattle.py_meaning.specs.Runs.{meaning, body_setting, run_body, call_from_outside, shown_from_outside}

-- the state that a run leaves, whatever it ends in
abbrev pub end_of : {A : Type 0} → Run A → State
end_of (Gives s a) = s
end_of (Halts s why) = s

-- it holds from the state before each run in a world to the state that the run leaves
pub record InRuns (w : World) (Holds : State → State → Type 0) : Type 0 where
  pub of_function : (calls m n : ℕ) (values : List Value) (s : State) → Holds s (end_of (meaning w calls m n values s))
  pub of_body : (m : ℕ) (s : State) → Holds s (end_of (run_body w m s))
  pub of_call : (callee : Value) (args : List Value) (s : State) → Holds s (end_of (call_from_outside w callee args s))
  pub of_shown : (callee : Value) (args : List Value) (s : State) → Holds s (end_of (shown_from_outside w callee args s))

-- ---- fuel, output, checks, objects

abbrev pub FuelNeverRises : Type 0
FuelNeverRises = (w : World) → InRuns w (λ before after. after.fuel ≤ before.fuel)

abbrev pub OutputOnlyGrows : Type 0
OutputOnlyGrows = (w : World) → InRuns w (λ before after. (more : Text) × (after.output ≡ before.output ++ more))

-- the count stays where it is full
abbrev pub ChecksNeverFall : Type 0
ChecksNeverFall = (w : World) → InRuns w (λ before after. before.checks < 2 ^ 64 → (before.checks ≤ after.checks) × (after.checks < 2 ^ 64))

abbrev pub ObjectsStay : Type 0
ObjectsStay = (w : World) → InRuns w (λ before after. length before.own ≤ length after.own)

-- ---- what is outside of a run

-- its rules let no write pass but to what the run makes
abbrev pub WritesItsOwn : World → Type 0
WritesItsOwn w = (h : Home) → w.mode.on_write h ≡ Go → h ≡ w.home

-- its rules let no print pass
abbrev pub PrintsNothing : World → Type 0
PrintsNothing w = w.mode.on_print ≢ Go

abbrev pub OthersUnchanged : Type 0
OthersUnchanged = (w : World) → WritesItsOwn w → InRuns w (λ before after. after.others ≡ before.others)

abbrev pub OutputUnchanged : Type 0
OutputUnchanged = (w : World) → PrintsNothing w → InRuns w (λ before after. after.output ≡ before.output)

-- so it is of imports, and of entries what modules made is unchanged
abbrev pub ImportsKeepIn : Type 0
ImportsKeepIn = (w : World) → w.mode ≡ import_mode w.home → WritesItsOwn w × PrintsNothing w

abbrev pub EntriesKeepIn : Type 0
EntriesKeepIn = (w : World) → w.mode ≡ entry_mode → w.home ≡ home.Run → WritesItsOwn w

-- ---- fuel ends before calls and turns do

-- each statement, call and turn of a loop begins with one
abbrev pub TicksLowerFuel : Type 0
TicksLowerFuel = (s t : State) → tick s ≡ Gives t tt → t.fuel < s.fuel

-- more calls than there is fuel are as many as any: in a function, and in the body of a module
abbrev pub CallsEndWithFuel : Type 0
CallsEndWithFuel = (w : World) (calls more m n : ℕ) (values : List Value) (s : State) → s.fuel < calls → meaning w (calls + more) m n values s ≡ meaning w calls m n values s

abbrev pub BodiesEndWithFuel : Type 0
BodiesEndWithFuel = (w : World) (more m : ℕ) (s : State) → exec_all (body_setting w m) (meaning w (suc s.fuel + more)) None w.own.tree s ≡ run_body w m s

abbrev pub NeverRaisesFuel : {A : Type 0} → Act A → Type 0
NeverRaisesFuel act = (s : State) → (end_of (act s)).fuel ≤ s.fuel

-- so are more turns: of a `while`, whose body takes no item, over a list and over a range
pub record TurnsEndWithFuel (w : World) (back : Act (Unit {0})) (body : Value → Act Flow) : Type 0 where
  pub of_while : (test : Act Bool) → NeverRaisesFuel test → (turns more : ℕ) (s : State) → s.fuel < turns
      → while_true back test (body v.Nil) (turns + more) s ≡ while_true back test (body v.Nil) turns s
  pub of_list : (h : Home) (n turns more i : ℕ) (s : State) → s.fuel < turns → over_list w h n back body (turns + more) i s ≡ over_list w h n back body turns i s
  pub of_range : (item : ℕ → Option Value) (turns more i : ℕ) (s : State) → s.fuel < turns → over_range back body item (turns + more) i s ≡ over_range back body item turns i s

abbrev pub LoopsEndWithFuel : Type 0
LoopsEndWithFuel = (w : World) (back : Act (Unit {0})) (body : Value → Act Flow) → NeverRaisesFuel back → ((x : Value) → NeverRaisesFuel (body x)) → TurnsEndWithFuel w back body

-- ---- texts

-- the pieces of a text, joined with the part between them, are the text again
abbrev pub PiecesJoin : Type 0
PiecesJoin = (part text : Text) → part ≢ [] → joined part (pieces part 0 [] text) ≡ text

-- ---- names

-- the builtins that names are resolved against are those that evaluation reads
abbrev pub SameBuiltins : Type 0
SameBuiltins = builtins ≡ builtin_names
