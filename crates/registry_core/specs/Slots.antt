-- Slots and events.
use Rattle.std.specs.Prelude.{ℕ, ◌==◌, ◌&&◌, ◌||◌, Bool, true, false, List, slice_index_or}
use Rattle.std.specs.List.{list_all, filter}
use Rattle.registry_core.specs.declared.slot.Slot.{Slot}
use Rattle.registry_core.specs.declared.slot.Slot.TheVariants.{Waiting, Claimed, Published, Refused, Withdrawn}
use Rattle.registry_core.specs.declared.slot.EventKind.{EventKind}
use Rattle.registry_core.specs.declared.slot.Event.{Event}

abbrev pub is_waiting : Slot → Bool
is_waiting Waiting = true
is_waiting (Claimed l) = false
is_waiting Published = false
is_waiting Refused = false
is_waiting Withdrawn = false

abbrev pub is_claimed : Slot → Bool
is_claimed Waiting = false
is_claimed (Claimed l) = true
is_claimed Published = false
is_claimed Refused = false
is_claimed Withdrawn = false

abbrev pub is_claimed_by : Slot → ℕ → Bool
is_claimed_by Waiting l = false
is_claimed_by (Claimed by) l = by == l
is_claimed_by Published l = false
is_claimed_by Refused l = false
is_claimed_by Withdrawn l = false

abbrev pub is_decided : Slot → Bool
is_decided Waiting = false
is_decided (Claimed l) = false
is_decided Published = true
is_decided Refused = true
is_decided Withdrawn = false

abbrev pub is_withdrawn : Slot → Bool
is_withdrawn Waiting = false
is_withdrawn (Claimed l) = false
is_withdrawn Published = false
is_withdrawn Refused = false
is_withdrawn Withdrawn = true

-- the slot of a module; past the last module it reads as Waiting
abbrev pub slot_at : List Slot → ℕ → Slot
slot_at slots m = slice_index_or slots m Waiting

-- whether all these modules are decided
abbrev pub all_decided : List Slot → List ℕ → Bool
all_decided slots ms = list_all (λ m. is_decided (slot_at slots m)) ms

-- whether m waits, and is cyclic or has all its direct imports decided
abbrev pub is_ready : (direct : ℕ → List ℕ) (is_cyclic : ℕ → Bool) → List Slot → ℕ → Bool
is_ready direct is_cyclic slots m = is_waiting (slot_at slots m) && (is_cyclic m || all_decided slots (direct m))

abbrev pub event : EventKind → ℕ → ℕ → Event
event kind m l = record { kind = kind; «module» = m; loader = l }

-- what happened to m, in order
abbrev pub events_of : ℕ → List Event → List Event
events_of m history = filter (λ e. e.module == m) history
