-- The machine of the registry: which events are legal where and what they do, and its runs.
use Rattle.std.specs.Prelude.{◌≡◌, ◌<◌, ℕ, Bool, true, false, List, [], ◌∷◌, length, Option, Some, None, slice_index_or, slice_set, replicate}
use Rattle.std.specs.List.{list_any}
use Rattle.import_graph.specs.World.{Rules}
use Rattle.registry_core.specs.declared.slot.Slot.{Slot}
use Rattle.registry_core.specs.declared.slot.Slot.TheVariants.{Waiting, Claimed, Published, Refused, Withdrawn}
use Rattle.registry_core.specs.declared.slot.EventKind.{EventKind}
use Rattle.registry_core.specs.declared.slot.EventKind.TheVariants.{Claim, Publish, Refuse, Withdraw}
use Rattle.registry_core.specs.declared.slot.Event.{Event}
use Rattle.registry_core.specs.Slots.{slot_at, is_withdrawn, is_ready}

-- a slot for each module, and the verdicts of those that are decided
pub record State (D : Type 0) : Type 0 where
  pub slots : List Slot
  pub verdicts : List (Option D)

-- all modules wait
abbrev pub start : {D : Type 0} → ℕ → State D
start count = record { slots = replicate count Waiting; verdicts = replicate count None }

abbrev pub verdict_at : {D : Type 0} → List (Option D) → ℕ → Option D
verdict_at verdicts m = slice_index_or verdicts m None

-- a module with its verdict, where one is stored, before the others
abbrev pub with_verdict : {D : Type 0} → ℕ → Option D → List (ℕ × D) → List (ℕ × D)
with_verdict n None rest = rest
with_verdict n (Some d) rest = (n, d) ∷ rest

-- the stored verdicts of these modules
abbrev pub stored : {D : Type 0} → List (Option D) → List ℕ → List (ℕ × D)
stored verdicts [] = []
stored verdicts (n ∷ ns) = with_verdict n (verdict_at verdicts n) (stored verdicts ns)

-- the verdict of m that is right over the stored verdicts of its need
abbrev pub right_over : {D : Type 0} → Rules D → State D → ℕ → D
right_over R s m = R.right m (stored s.verdicts (R.need m))

-- m may be claimed: it is ready, and no claim was withdrawn
pub record MayClaim {D : Type 0} (R : Rules D) (s : State D) (m : ℕ) : Type 0 where
  pub there : m < length s.slots
  pub ready : is_ready R.direct R.is_cyclic s.slots m ≡ true
  pub running : list_any is_withdrawn s.slots ≡ false

-- m may be published, or refused: the loader has it, and so is its right verdict
pub record MayDecide {D : Type 0} (R : Rules D) (s : State D) (refused : Bool) (m l : ℕ) : Type 0 where
  pub claimed : slot_at s.slots m ≡ Claimed l
  pub right : R.is_refused (right_over R s m) ≡ refused

-- the event of this kind, of module m and loader l, is legal
abbrev pub Legal : {D : Type 0} → Rules D → State D → EventKind → ℕ → ℕ → Type 0
Legal R s Claim m l = MayClaim R s m
Legal R s Publish m l = MayDecide R s false m l
Legal R s Refuse m l = MayDecide R s true m l
Legal R s Withdraw m l = slot_at s.slots m ≡ Claimed l

-- what it leads to; the slots and verdicts of all other modules stay
abbrev pub after : {D : Type 0} → Rules D → State D → EventKind → ℕ → ℕ → State D
after R s Claim m l = record s { slots = slice_set s.slots m (Claimed l) }
after R s Publish m l = record { slots = slice_set s.slots m Published; verdicts = slice_set s.verdicts m (Some (right_over R s m)) }
after R s Refuse m l = record { slots = slice_set s.slots m Refused; verdicts = slice_set s.verdicts m (Some (right_over R s m)) }
after R s Withdraw m l = record s { slots = slice_set s.slots m Withdrawn }

-- these events are legal one after another, and lead from the one state to the other
abbrev pub Leads : {D : Type 0} → Rules D → State D → List Event → State D → Type 0
Leads R s [] t = s ≡ t
Leads R s (e ∷ es) t = Legal R s e.kind e.module e.loader × Leads R (after R s e.kind e.module e.loader) es t
