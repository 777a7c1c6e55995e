-- A right registry.
use Rattle.std.specs.Prelude.{◌≡◌, ◌≤◌, ℕ, ◌||◌, Bool, true, false, cond, List, [], ◌∷◌, Some, None, count_by}
use Rattle.import_graph.specs.World.{Rules, world}
use Rattle.registry_core.specs.declared.slot.Slot.{Slot}
use Rattle.registry_core.specs.declared.slot.Slot.TheVariants.{Waiting, Claimed, Published, Refused, Withdrawn}
use Rattle.registry_core.specs.declared.slot.EventKind.{EventKind}
use Rattle.registry_core.specs.declared.slot.EventKind.TheVariants.{Claim, Publish, Refuse, Withdraw}
use Rattle.registry_core.specs.declared.slot.Event.{Event}
use Rattle.registry_core.specs.Slots.{is_waiting, is_claimed, is_decided, slot_at, all_decided, event, events_of}
use Rattle.registry_core.specs.Machine.{State, start, verdict_at, Leads}

-- what happened to m where this is its slot: at most one claim, and after it at most one other event, by the same loader
abbrev pub Happened : Slot → ℕ → List Event → Type 0
Happened Waiting m events = events ≡ []
Happened (Claimed l) m events = events ≡ event Claim m l ∷ []
Happened Published m events = (l : ℕ) × (events ≡ event Claim m l ∷ event Publish m l ∷ [])
Happened Refused m events = (l : ℕ) × (events ≡ event Claim m l ∷ event Refuse m l ∷ [])
Happened Withdrawn m events = (l : ℕ) × (events ≡ event Claim m l ∷ event Withdraw m l ∷ [])

abbrev pub is_claim : EventKind → Bool
is_claim Claim = true
is_claim Publish = false
is_claim Refuse = false
is_claim Withdraw = false

-- each module was claimed at most once
abbrev pub IsClaimedOnce : List Event → Type 0
IsClaimedOnce history = (m : ℕ) → count_by (λ e. is_claim e.kind) (events_of m history) ≤ 1

-- a registry of so many modules is right
pub record IsRight {D : Type 0} (R : Rules D) (count : ℕ) (s : State D) (history : List Event) (open_claims : ℕ) : Type 0 where
  -- the history is a run of the machine from all waiting, and leads to this state
  pub run : Leads R (start count) history s
  -- exactly the decided modules have a stored verdict, which is the world's
  pub worlds : (m : ℕ) → verdict_at s.verdicts m ≡ cond (is_decided (slot_at s.slots m)) (Some (world R m)) None
  -- a module that doesn't wait is cyclic, or its direct imports are decided
  pub ready : (m : ℕ) → is_waiting (slot_at s.slots m) ≡ false → R.is_cyclic m || all_decided s.slots (R.direct m) ≡ true
  -- each module was claimed at most once, and after it at most one other event was of the module
  pub events : (m : ℕ) → Happened (slot_at s.slots m) m (events_of m history)
  -- the open claims are as many as the claimed modules
  pub book : open_claims ≡ count_by is_claimed s.slots
