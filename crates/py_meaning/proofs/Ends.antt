-- How the examples end: a body is run as a module's, over no images, under the rules of imports.
use Rattle.std.specs.Prelude.{Bool, ℕ, zero, suc, ℤ, pos, negsuc, ◌+◌, ◌-◌, ◌/◌, ◌%◌, nat_lt, true, false, if◌then◌else◌, List, [], ◌∷◌, ◌++◌, map, codes, slice_get, Option, Some, None}
use Rattle.std.specs.Ordering.{int_eq}
use Rattle.py_tree.specs.Syntax.{Text, Statements}
use Rattle.py_tree.specs.declared.code.Code.{Code}
use Rattle.py_values.specs.Builtins.{name_of}
use Rattle.py_values.specs.declared.value.Home.TheVariants as home
use Rattle.key_map.specs.Entries.{Entry}
use Rattle.atom_ops.specs.Texts.{repr_of}
use Rattle.gradual_types.specs.Values as v
use Rattle.gradual_types.specs.Values.{Value}
use Rattle.gradual_types.specs.States.{State, Variable, value_of}
use Rattle.py_meaning.specs.Acts.{Run, Gives, Halts, Raised, Refused, Spent, Flow}
use Rattle.py_meaning.specs.Classes.{class_name, is_exception}
use Rattle.py_meaning.specs.Looks as seen
use Rattle.py_meaning.specs.Looks.{Seen, look}
use Rattle.py_meaning.specs.Modes.{import_mode}
use Rattle.py_meaning.specs.Modules.{World, function_name, module_name}
use Rattle.py_meaning.specs.Runs.{run_body, body_start}
use Rattle.py_meaning.specs.TextForms.{args_in, method_name}
use Rattle.py_meaning.specs.Worlds.{body_world}

-- with the fuel used, the line, and the class of the exception or the code
pub data End : Type 0 where
  Finished : ℕ → End
  HasRaised : ℕ → ℕ → Text → End
  HasSpent : ℕ → ℕ → End
  IsRefused : ℕ → ℕ → Code → End

-- ---- the world of a body

-- that of a module m, over no images
abbrev pub world : Statements → World
world body = body_world (import_mode (home.Module 0)) [] (codes "m") 0 body

-- ---- values as texts

abbrev digits : ℕ → ℕ → Text → Text
digits zero n rest = rest
digits (suc most) n rest = if nat_lt n 10 then (48 + n) ∷ rest else digits most (n / 10) ((48 + n % 10) ∷ rest)

abbrev decimal : ℤ → Text
decimal (pos n) = digits 20 n []
decimal (negsuc n) = 45 ∷ digits 20 (suc n) []

abbrev separated : List Text → Text
separated [] = []
separated (text ∷ []) = text
separated (text ∷ texts) = text ++ codes ", " ++ separated texts

abbrev tuple_items : List Text → Text
tuple_items (text ∷ []) = text ++ codes ","
tuple_items texts = separated texts

abbrev entry_text : (Value → Text) → Entry Value Value → Text
entry_text text e = text e.shown ++ codes ": " ++ text e.value

abbrev host_name : List Text → ℕ → Text
host_name names n = name_or_none (slice_get names n) where
  name_or_none : Option Text → Text
  name_or_none None = []
  name_or_none (Some name) = name

abbrev seen_text : World → (Value → Text) → Run Seen → Text
seen_text w text (Gives s seen.Nil) = codes "None"
seen_text w text (Gives s (seen.Truth true)) = codes "True"
seen_text w text (Gives s (seen.Truth false)) = codes "False"
seen_text w text (Gives s (seen.Int n)) = decimal n
seen_text w text (Gives s (seen.Points points)) = repr_of points
seen_text w text (Gives s (seen.Tuple vs)) = codes "(" ++ tuple_items (map text vs) ++ codes ")"
seen_text w text (Gives s (seen.Listed h n vs)) = codes "[" ++ separated (map text vs) ++ codes "]"
seen_text w text (Gives s (seen.Mapped h n es)) = codes "{" ++ separated (map (entry_text text) es) ++ codes "}"
seen_text w text (Gives s (seen.Range start stop step)) =
    codes "range(" ++ decimal start ++ codes ", " ++ decimal stop ++ (if int_eq step (pos 1) then [] else codes ", " ++ decimal step) ++ codes ")"
seen_text w text (Gives s (seen.Instance h n c slots)) =
    if is_exception w c then class_name w c ++ codes "(" ++ separated (map text (args_in slots)) ++ codes ")" else codes "<" ++ class_name w c ++ codes " object>"
seen_text w text (Gives s (seen.Class c)) = codes "<class " ++ class_name w c ++ codes ">"
seen_text w text (Gives s (seen.Function m n)) = codes "<function " ++ function_name w m n ++ codes ">"
seen_text w text (Gives s (seen.Bound receiver method)) = codes "<bound method " ++ method_name w method ++ codes ">"
seen_text w text (Gives s (seen.Module m)) = codes "<module " ++ module_name w m ++ codes ">"
seen_text w text (Gives s (seen.BuiltIn b)) = codes "<builtin " ++ name_of b ++ codes ">"
seen_text w text other = []

abbrev value_text : World → State → ℕ → Value → Text
value_text w s zero x = []
value_text w s (suc levels) (v.Host m n) = codes "<host " ++ host_name w.own.facts.hosts n ++ codes ">"
value_text w s (suc levels) x = seen_text w (value_text w s levels) (look w x s)

-- ---- the end

pub record Global : Type 0 where
  pub name : Text
  pub text : Option Text

abbrev pub holds : Text → Text → Global
holds name text = record { name = name; text = Some text }

abbrev pub is_unbound : Text → Global
is_unbound name = record { name = name; text = None }

abbrev global : World → State → Variable → Global
global w s x = record { name = x.name; text = maybe x.value } where
  maybe : Option Value → Option Text
  maybe None = None
  maybe (Some value) = Some (value_text w s 20 value)

abbrev class_of : World → Run Seen → Text
class_of w (Gives s (seen.Instance h n c slots)) = class_name w c
class_of w other = []

pub record Ended : Type 0 where
  pub end : End
  pub globals : List Global

abbrev ended_so : World → ℕ → Run Flow → Ended
ended_so w fuel (Gives s flow) = record { end = Finished (fuel - s.fuel); globals = map (global w s) s.globals }
ended_so w fuel (Halts s (Raised e)) = record { end = HasRaised (fuel - s.fuel) s.line (class_of w (look w e s)); globals = map (global w s) s.globals }
ended_so w fuel (Halts s Spent) = record { end = HasSpent (fuel - s.fuel) s.line; globals = map (global w s) s.globals }
ended_so w fuel (Halts s (Refused code)) = record { end = IsRefused (fuel - s.fuel) s.line code; globals = map (global w s) s.globals }

-- how a body ends with so much fuel
abbrev pub ended : ℕ → Statements → Ended
ended fuel body = ended_so (world body) fuel (run_body (world body) 0 (body_start (world body) fuel))

-- ---- parts of it

abbrev ended_run : ℕ → Statements → Run Flow
ended_run fuel body = run_body (world body) 0 (body_start (world body) fuel)

abbrev state_of : Run Flow → State
state_of (Gives s flow) = s
state_of (Halts s why) = s

-- what a global holds at the end
abbrev pub named_global : Text → Statements → Option Text
named_global name body = shown (value_of name (state_of (ended_run 50000 body)).globals) where
  shown : Option Value → Option Text
  shown None = None
  shown (Some value) = Some (value_text (world body) (state_of (ended_run 50000 body)) 20 value)

-- the line and the code, where the body is refused
abbrev pub refusal : Statements → Option (ℕ × Code)
refusal body = of_run (ended_run 50000 body) where
  of_run : Run Flow → Option (ℕ × Code)
  of_run (Halts s (Refused code)) = Some (s.line, code)
  of_run other = None

-- what is left of so much fuel, where the body comes to its end
abbrev pub fuel_left : ℕ → Statements → Option ℕ
fuel_left fuel body = of_run (ended_run fuel body) where
  of_run : Run Flow → Option ℕ
  of_run (Gives s flow) = Some s.fuel
  of_run other = None

abbrev pub is_spent : ℕ → Statements → Bool
is_spent fuel body = of_run (ended_run fuel body) where
  of_run : Run Flow → Bool
  of_run (Halts s Spent) = true
  of_run other = false

abbrev pub ended_state : Statements → State
ended_state body = state_of (ended_run 50000 body)
