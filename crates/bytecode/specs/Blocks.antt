-- What a block of code does, where each call that it asks for is answered from outside.
use Rattle.std.specs.Prelude.{ℕ, ◌+◌, true, false, List, [], ◌∷◌, ◌++◌, Bool, Option, Some, None, slice_get}
use Rattle.gradual_types.specs.Values.{Value}
use Rattle.gradual_types.specs.States.{State}
use Rattle.py_meaning.specs.Acts.{Run, Gives, Halts, Halt, Raised, tick}
use Rattle.py_meaning.specs.Modules.{Setting}
use Rattle.py_meaning.specs.Calls.{Oracle}
use Rattle.bytecode.specs.declared.instr.Handler.{Handler}
use Rattle.bytecode.specs.declared.instr.Cell.{Cell}
use Rattle.bytecode.specs.Iterators.{Iterator, Item}
use Rattle.bytecode.specs.Callings.{Calling, calling}
use Rattle.bytecode.specs.Moves.{Open, nothing_open, looping, holding, dropped, unbound_by, Move, To, Goes, Pushes, Spreads, Tests, Turns, Opens, Steps, Asks, Leaves, Stuck, act}

-- where the run of a block stands, or how it ended
pub data Config : Type 0 where
  At : ℕ → List Value → Open → State → Config  -- the place, the operands, what is under way and the state
  Over : Run Value → Config
  Jammed : Config

-- ---- exceptions

-- one goes to the handler's place, and there a clause may take it; without a place it leaves the block
abbrev pub raised_at : Option ℕ → Open → State → Value → Config
raised_at None around s e = Over (Halts s (Raised e))
raised_at (Some p) around s e = At p [] (holding (record { exception = e; line = s.line; variable = None }) around) s

abbrev pub thrown : Setting → Handler → Open → State → Halt → Config
thrown c h around s (Raised e) =
    raised_at h.place (record { loops = dropped h.loops around.loops; held = dropped h.clauses around.held }) (unbound_by c h.clauses around.held s) e
thrown c h around s other = Over (Halts s other)

-- ---- steps

-- goes on with what a run gives
abbrev pub after : {A : Type 0} → (A → State → Config) → (State → Halt → Config) → Run A → Config
after go out (Gives s a) = go a s
after go out (Halts s why) = out s why

abbrev pub going : ℕ → List Value → Open → Unit {0} → State → Config
going p st around u s = At p st around s

abbrev pub pushing : ℕ → List Value → Open → Value → State → Config
pushing p st around x s = At p (x ∷ st) around s

abbrev pub spreading : ℕ → List Value → Open → List Value → State → Config
spreading p st around xs s = At p (xs ++ st) around s

abbrev pub testing : ℕ → List Value → ℕ → List Value → Open → Bool → State → Config
testing p st q tt' around true s = At p st around s
testing p st q tt' around false s = At q tt' around s

abbrev pub turning : (State → Halt → Config) → ℕ → ℕ → List Value → Open → Bool → State → Config
turning out p q st around true s = after (going p st around) out (tick s)
turning out p q st around false s = At q st around s

abbrev pub opening : ℕ → List Value → Open → Iterator → State → Config
opening p st around it s = At p st (looping it around) s

abbrev pub stepping : (State → Halt → Config) → ℕ → ℕ → List Value → List Iterator → Open → Item → State → Config
stepping out p q st loops around None s = At q st around s
stepping out p q st loops around (Some item) s = after (going p (item.0 ∷ st) (record around { loops = item.1 ∷ loops })) out (tick s)

abbrev pub asking : Setting → Oracle → (State → Halt → Config) → ℕ → List Value → Open → Calling → State → Config
asking c call out p st around a s = after (pushing p st around) out (calling c call a s)

module _ (c : Setting) (call : Oracle) where
  abbrev pub land : Handler → ℕ → Open → Move → Config
  land h pc around (To p st around' s) = At p st around' s
  land h pc around (Goes st around' r) = after (going (pc + 1) st around') (thrown c h around) r
  land h pc around (Pushes st r) = after (pushing (pc + 1) st around) (thrown c h around) r
  land h pc around (Spreads st r) = after (spreading (pc + 1) st around) (thrown c h around) r
  land h pc around (Tests p st q tt' r) = after (testing p st q tt' around) (thrown c h around) r
  land h pc around (Turns p st r) = after (turning (thrown c h around) p (pc + 1) st around) (thrown c h around) r
  land h pc around (Opens st r) = after (opening (pc + 1) st around) (thrown c h around) r
  land h pc around (Steps p st loops r) = after (stepping (thrown c h around) p (pc + 1) st loops around) (thrown c h around) r
  land h pc around (Asks st r) = after (asking c call (thrown c h around) (pc + 1) st around) (thrown c h around) r
  land h pc around (Leaves x s) = Over (Gives s x)
  land h pc around Stuck = Jammed

  abbrev pub run_cell : Option Cell → ℕ → List Value → Open → State → Config
  run_cell None pc st around s = Jammed
  run_cell (Some x) pc st around s = land x.handler pc around (act c x.instr pc st around s)

  abbrev pub step : List Cell → Config → Config
  step code (At pc st around s) = run_cell (slice_get code pc) pc st around s
  step code (Over r) = Over r
  step code Jammed = Jammed

  -- a run of the block comes from one to the other
  module _ (code : List Cell) where
    pub data Leads : Config → Config → Type 0 where
      here : {a : Config} → Leads a a
      next : {a b : Config} → Leads (step code a) b → Leads a b

-- in that setting the block comes from the state to that run
abbrev pub Does : Setting → List Cell → Oracle → State → Run Value → Type 0
Does c code call s r = Leads c call code (At 0 [] nothing_open s) (Over r)
