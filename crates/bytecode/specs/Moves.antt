-- What each instruction does.
use Rattle.std.specs.Prelude.{ℕ, zero, suc, ◌+◌, ◌*◌, ◌==◌, List, [], ◌∷◌, length, Bool, Option, Some, None}
use Rattle.std.specs.Option.{option_map}
use Rattle.py_values.specs.declared.class_id.ClassId.{ClassId}
use Rattle.py_values.specs.declared.class_id.ClassId.TheVariants as id
use Rattle.py_values.specs.declared.exception.ExcKind.TheVariants as kind
use Rattle.atom_ops.specs.Operators as op
use Rattle.gradual_types.specs.declared.py_type.PyType.TheVariants.{Dynamic}
use Rattle.gradual_types.specs.Values as v
use Rattle.gradual_types.specs.Values.{Value}
use Rattle.gradual_types.specs.States.{State}
use Rattle.py_meaning.specs.Acts.{Act, Run, Gives, Halts, Raised, ◌>>=◌, ◌>>◌, give, halt, done, pay, tick, choose}
use Rattle.py_meaning.specs.Modules.{World, Setting, module_name}
use Rattle.py_meaning.specs.Looks.{look, raise, make}
use Rattle.py_meaning.specs.Operands.{operand, by_table, truth, opposite, binary}
use Rattle.py_meaning.specs.Comparisons.{comparison}
use Rattle.py_meaning.specs.Boundaries.{From}
use Rattle.py_meaning.specs.Attributes.{get_attribute, set_attribute}
use Rattle.py_meaning.specs.Subscripts.{get_item, set_item}
use Rattle.py_meaning.specs.Iterables.{gather}
use Rattle.py_meaning.specs.Calls.{own_class, boxed}
use Rattle.py_meaning.specs.Expressions.{made_dict}
use Rattle.py_meaning.specs.Targets.{augmented}
use Rattle.py_meaning.specs.Exceptions.{takes}
use Rattle.py_meaning.specs.Definitions.{set_default, class_value}
use Rattle.py_meaning.specs.Imports.{module_named, taken}
use Rattle.bytecode.specs.declared.instr.Variable.{Variable}
use Rattle.bytecode.specs.declared.instr.Shape.{Shape}
use Rattle.bytecode.specs.declared.instr.Instr.{Instr}
use Rattle.bytecode.specs.declared.instr.Instr.TheVariants as i
use Rattle.bytecode.specs.Iterators.{Iterator, Item, iterated, next_item}
use Rattle.bytecode.specs.Callings.{Calling, arguments, ask_call, ask_exception, is_receiver, ask_base}
use Rattle.bytecode.specs.Scopes.{load, set, with_variable}

-- ---- what is under way in a block

-- what an except clause holds: the exception, the line at which it was raised, and the variable that is bound to it
pub record Caught : Type 0 where
  pub exception : Value
  pub line : ℕ
  pub variable : Option Variable

-- the innermost first
pub record Open : Type 0 where
  pub loops : List Iterator
  pub held : List Caught

abbrev pub nothing_open : Open
nothing_open = record { loops = []; held = [] }

abbrev pub looping : Iterator → Open → Open
looping it around = record around { loops = it ∷ around.loops }

abbrev pub holding : Caught → Open → Open
holding x around = record around { held = x ∷ around.held }

abbrev pub dropped : {A : Type 0} → ℕ → List A → List A
dropped zero xs = xs
dropped (suc n) [] = []
dropped (suc n) (x ∷ xs) = dropped n xs

-- out of so many clauses, whose variables are unbound
abbrev pub left_by : ℕ → Open → Open
left_by n around = record around { held = dropped n around.held }

abbrev pub unbound : Setting → Option Variable → State → State
unbound c None s = s
unbound c (Some x) s = with_variable c x None s

abbrev pub unbound_by : Setting → ℕ → List Caught → State → State
unbound_by c zero held s = s
unbound_by c (suc n) [] s = s
unbound_by c (suc n) (x ∷ held) s = unbound_by c n held (unbound c x.variable s)

abbrev pub innermost : List Caught → Option Value
innermost [] = None
innermost (x ∷ held) = Some x.exception

-- ---- moves

-- what an instruction comes to; where no place is named, the next cell goes on
pub data Move : Type 0 where
  To : ℕ → List Value → Open → State → Move
  Goes : List Value → Open → Run (Unit {0}) → Move
  Pushes : List Value → Run Value → Move
  Spreads : List Value → Run (List Value) → Move  -- pushes all, the first on top
  Tests : ℕ → List Value → ℕ → List Value → Run Bool → Move  -- to a place with a stack, where it holds, or to another
  Turns : ℕ → List Value → Run Bool → Move  -- to a place, for a fuel of 1, where it holds
  Opens : List Value → Run Iterator → Move
  Steps : ℕ → List Value → List Iterator → Run Item → Move  -- to a place with an item, for a fuel of 1, where there is one
  Asks : List Value → Run Calling → Move  -- pushes the answer
  Leaves : Value → State → Move
  Stuck : Move

-- ---- operands

abbrev pub top : List Value → (Value → List Value → Move) → Move
top [] go = Stuck
top (x ∷ st) go = go x st

-- the one on top is the second
abbrev pub top_two : List Value → (Value → Value → List Value → Move) → Move
top_two (b ∷ a ∷ st) go = go a b st
top_two st go = Stuck

abbrev pub top_three : List Value → (Value → Value → Value → List Value → Move) → Move
top_three (c ∷ b ∷ a ∷ st) go = go a b c st
top_three st go = Stuck

-- so many off the stack, the deepest first, before those that are there already
abbrev pub pops : ℕ → List Value → List Value → (List Value → List Value → Move) → Move
pops zero vs st go = go vs st
pops (suc n) vs [] go = Stuck
pops (suc n) vs (x ∷ st) go = pops n (x ∷ vs) st go

abbrev pub pairs : List Value → List (Value × Value)
pairs (key ∷ value ∷ vs) = (key, value) ∷ pairs vs
pairs vs = []

abbrev pub shaped : Shape → List Value → (List Value → List Value → Move) → Move
shaped shape st go = pops (shape.positional + length shape.keywords) [] st go

-- ---- what is under way

abbrev pub top_loop : List Iterator → (Iterator → List Iterator → Move) → Move
top_loop [] go = Stuck
top_loop (it ∷ loops) go = go it loops

abbrev pub top_held : List Caught → (Caught → List Caught → Move) → Move
top_held [] go = Stuck
top_held (x ∷ held) go = go x held

abbrev pub in_class : Option ClassId → (ClassId → Move) → Move
in_class None go = Stuck
in_class (Some class) go = go class

-- ---- actions

abbrev pub at_line : Option ℕ → Act (Unit {0})
at_line None = done
at_line (Some n) = λ s. Gives (record s { line = n }) tt

abbrev pub spread : World → ℕ → Value → Act (List Value)
spread w n x = do
  values ← gather w x
  choose (length values == n) (give values) (raise w kind.ValueError)

abbrev pub set_caught : Setting → Option Variable → Value → Act (Unit {0})
set_caught c None e = done
set_caught c (Some x) e = set c x (Some e)

-- it goes on, as raised at that line
abbrev pub passed : ℕ → Value → Act Value
passed line e = λ s. Halts (record s { line = line }) (Raised e)

abbrev pub again : World → Option Value → Act Value
again w None = raise w kind.TypeError
again w (Some e) = halt (Raised e)

-- the instruction at that place, over these operands and what is under way
abbrev pub act : Setting → Instr → ℕ → List Value → Open → State → Move
act c i.Nil pc st around s = To (pc + 1) (v.Nil ∷ st) around s
act c (i.Truth b) pc st around s = To (pc + 1) (v.Truth b ∷ st) around s
act c (i.Int n) pc st around s = To (pc + 1) (v.Int n ∷ st) around s
act c (i.Str text) pc st around s = To (pc + 1) (v.Points text ∷ st) around s
act c (i.Builtin b) pc st around s = To (pc + 1) (v.BuiltIn b ∷ st) around s
act c (i.Exception k) pc st around s = To (pc + 1) (v.Class (id.Exc k) ∷ st) around s
act c i.ModuleName pc st around s = To (pc + 1) (v.Points (module_name c.world c.scope.«module») ∷ st) around s
act c (i.Fail k) pc st around s = Pushes st (raise c.world k s)
act c (i.Load x) pc st around s = Pushes st (load c x s)
act c (i.Store x) pc st around s = top st (λ a st. Goes st around (set c x (Some a) s))
act c (i.Unbind x) pc st around s = Goes st around (set c x None s)
act c i.DropTop pc st around s = top st (λ a st. To (pc + 1) st around s)
act c i.Copy pc st around s = top st (λ a st. To (pc + 1) (a ∷ a ∷ st) around s)
act c i.CopyTwo pc st around s = top_two st (λ a b st. To (pc + 1) (b ∷ a ∷ b ∷ a ∷ st) around s)
act c i.Swap pc st around s = top_two st (λ a b st. To (pc + 1) (a ∷ b ∷ st) around s)
act c i.Rotate pc st around s = top_three st (λ a b c st. To (pc + 1) (b ∷ a ∷ c ∷ st) around s)
act c (i.Tuple n) pc st around s = pops n [] st (λ vs st. Pushes st ((pay (length vs) >> give (v.Tuple (v.values vs))) s))
act c (i.List n) pc st around s = pops n [] st (λ vs st. Pushes st ((pay (length vs) >> make c.world (v.Listed vs)) s))
act c (i.Dict n) pc st around s = pops (n * 2) [] st (λ vs st. Pushes st (made_dict c.world (pairs vs) s))
act c (i.Unary operator) pc st around s = top st (λ x st. Pushes st ((look c.world x >>= λ a. by_table c.world (op.Unary operator (operand a))) s))
act c (i.Binary operator) pc st around s = top_two st (λ a b st. Pushes st (binary c.world operator a b s))
act c (i.Augment operator) pc st around s = top_two st (λ a b st. Pushes st (augmented c.world operator a b s))
act c (i.Compare operator) pc st around s = top_two st (λ a b st. Pushes st (comparison c.world operator a b s))
act c (i.Is negated constant) pc st around s = top st (λ x st. Pushes st ((look c.world x >>= λ a. by_table c.world (op.Is negated (operand a) constant)) s))
act c i.Not pc st around s = top st (λ x st. Pushes st (opposite c.world x s))
act c i.Box pc st around s = top st (λ x st. To (pc + 1) (boxed x ∷ st) around s)
act c (i.GetAttribute name) pc st around s = top st (λ x st. Pushes st (get_attribute c.world x name s))
act c (i.SetAttribute name) pc st around s = top_two st (λ value x st. Goes st around (set_attribute c x name (From Dynamic) value s))
act c i.GetItem pc st around s = top_two st (λ x index st. Pushes st (get_item c.world x index s))
act c i.SetItem pc st around s = top_three st (λ value x index st. Goes st around (set_item c.world x index value s))
act c (i.Unpack n) pc st around s = top st (λ x st. Spreads st (spread c.world n x s))
act c (i.Call shape) pc st around s =
    shaped shape st (λ vs st. top st (λ callee st. Asks st (ask_call c.world callee (arguments shape.positional shape.keywords vs) s)))
act c (i.IsReceiver name) pc st around s = top st (λ x st. in_class (own_class c) (λ class. Goes (x ∷ st) around (is_receiver c.world name class x s)))
act c (i.CallBase name shape) pc st around s =
    shaped shape st (λ vs st. top st (λ x st. in_class (own_class c) (λ class. Asks st (ask_base c.world class name x (arguments shape.positional shape.keywords vs) s))))
act c (i.Begin line) pc st around s = Goes st around ((at_line line >> tick) s)
act c (i.AtLine line) pc st around s = Goes st around (at_line (Some line) s)
act c (i.Jump p) pc st around s = To p st around s
act c (i.JumpUnless p) pc st around s = top st (λ x st. Tests (pc + 1) st p st (truth c.world x s))
act c (i.KeepUnless p) pc st around s = top st (λ x st. Tests (pc + 1) st p (x ∷ st) (truth c.world x s))
act c (i.KeepIf p) pc st around s = top st (λ x st. Tests p (x ∷ st) (pc + 1) st (truth c.world x s))
act c (i.TurnIf p) pc st around s = top st (λ x st. Turns p st (truth c.world x s))
act c i.Iterate pc st around s = top st (λ x st. Opens st ((look c.world x >>= iterated c.world) s))
act c (i.Next p) pc st around s = top_loop around.loops (λ it loops. Steps p st loops (next_item c.world it s))
act c i.EndLoop pc st around s = top_loop around.loops (λ it loops. To (pc + 1) st (record around { loops = loops }) s)
act c (i.Leave n p) pc st around s = To p st (left_by n around) (unbound_by c n around.held s)
act c (i.Return n) pc st around s = top st (λ x st. Leaves x (unbound_by c n around.held s))
act c i.Make pc st around s = top st (λ x st. Asks st ((look c.world x >>= ask_exception c.world x) s))
act c i.Throw pc st around s = top st (λ x st. Pushes st (halt (Raised x) s))
act c i.ThrowAgain pc st around s = Pushes st (again c.world (innermost around.held) s)
act c (i.TakesElse p) pc st around s = top st (λ x st. top_held around.held (λ e held. Tests (pc + 1) st p st (takes c.world x e.exception s)))
act c (i.Take x) pc st around s =
    top_held around.held (λ e held. Goes st (record around { held = record e { variable = x } ∷ held }) (set_caught c x e.exception s))
act c i.PassOn pc st around s = top_held around.held (λ e held. Pushes st (passed e.line e.exception s))
act c i.Release pc st around s = top_held around.held (λ e held. To (pc + 1) st (record around { held = held }) (unbound c e.variable s))
act c (i.ImportModule name x) pc st around s = Goes st around (set c x (option_map v.Module (module_named c.world name)) s)
act c (i.ImportMember m) pc st around s = Goes st around (set c m.variable (taken c.world m.«module» m.name) s)
act c (i.SetDefault function parameter) pc st around s = top st (λ x st. Goes st around (set_default function parameter x s))
act c (i.Function n) pc st around s = To (pc + 1) (v.Function c.scope.«module» n ∷ st) around s
act c (i.Class n) pc st around s = To (pc + 1) (class_value c n ∷ st) around s
