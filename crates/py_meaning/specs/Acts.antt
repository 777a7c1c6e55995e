-- Actions on a state: what they give, and what ends an evaluation before its value.
use Rattle.std.specs.Prelude.{ℕ, ◌-◌, nat_le, Bool, true, false, if◌then◌else◌}
use Rattle.py_tree.specs.declared.code.Code.{Code}
use Rattle.gradual_types.specs.Values.{Value}
use Rattle.gradual_types.specs.States.{State}

infixl 1 ◌>>=◌
infixl 1 ◌>>◌
-- what ends an evaluation before its value
pub data Halt : Type 0 where
  Raised : Value → Halt  -- an exception, which a `try` may take
  Refused : Code → Halt  -- the rules of the run refuse the module
  Spent : Halt  -- the fuel has ended

-- how a statement ends
pub data Flow : Type 0 where
  On : Flow  -- what follows is next
  Returned : Value → Flow
  Broke : Flow
  Continued : Flow

pub data Run (A : Type 0) : Type 0 where
  Gives : State → A → Run A
  Halts : State → Halt → Run A

abbrev pub Act : Type 0 → Type 0
Act A = State → Run A

abbrev pub and_then : {A B : Type 0} → Run A → (A → Act B) → Run B
and_then (Gives s a) next = next a s
and_then (Halts s halt) next = Halts s halt

-- the first, and then what the second is of its value
abbrev pub ◌>>=◌ : {A B : Type 0} → Act A → (A → Act B) → Act B
◌>>=◌ first next = λ s. and_then (first s) next

abbrev pub ◌>>◌ : {A B : Type 0} → Act A → Act B → Act B
◌>>◌ first next = λ s. and_then (first s) (λ _. next)

abbrev pub give : {A : Type 0} → A → Act A
give a = λ s. Gives s a

abbrev pub halt : {A : Type 0} → Halt → Act A
halt why = λ s. Halts s why

abbrev pub done : Act (Unit {0})
done = give tt

abbrev pub choose : {A : Type 0} → Bool → Act A → Act A → Act A
choose true first other = first
choose false first other = other

-- ---- fuel

-- work of that cost: where less is left it isn't done, and then none is left
abbrev pub pay : ℕ → Act (Unit {0})
pay cost = λ s. if nat_le cost s.fuel then Gives (record s { fuel = s.fuel - cost }) tt else Halts (record s { fuel = 0 }) Spent

abbrev pub tick : Act (Unit {0})
tick = pay 1
