-- What contracts see of a registry.
use Rattle.std.specs.Prelude.{ℕ, ◌+◌, ◌-◌, List, [], ◌∷◌, ◌++◌, map, Option, Some, slice_set}
use Rattle.std.specs.Option.{option_map}
use Rattle.registry_core.specs.declared.slot.Slot.{Slot}
use Rattle.registry_core.specs.declared.slot.EventKind.{EventKind}
use Rattle.registry_core.specs.declared.slot.EventKind.TheVariants.{Claim, Publish, Refuse, Withdraw}
use Rattle.registry_core.specs.declared.slot.Event.{Event}
use Rattle.registry_core.specs.Slots.{event}
use Rattle.registry_core.specs.Machine.{State}

-- by the modules' numbers their slots and the verdicts of those that are decided; what happened, in order; and the total of the book of
-- open claims
pub record RegistryView (V : Type 0) : Type 0 where
  pub slots : List Slot
  pub verdicts : List (Option V)
  pub history : List Event
  pub open_claims : ℕ

-- its state, as data
abbrev pub state_of : {V D : Type 0} → (V → D) → RegistryView V → State D
state_of verdict_data v = record { slots = v.slots; verdicts = map (λ o. option_map verdict_data o) v.verdicts }

-- what an event makes of the number of open claims: a claim opens one, and every other event closes one
abbrev pub open_after : EventKind → ℕ → ℕ
open_after Claim n = n + 1
open_after Publish n = n - 1
open_after Refuse n = n - 1
open_after Withdraw n = n - 1

-- after an event of m that brings it to this slot
abbrev pub moved : {V : Type 0} → RegistryView V → EventKind → ℕ → ℕ → Slot → RegistryView V
moved v kind m l slot = record {
  slots = slice_set v.slots m slot;
  verdicts = v.verdicts;
  history = v.history ++ event kind m l ∷ [];
  open_claims = open_after kind v.open_claims;
}

-- after an event of m that brings it to this slot and stores this verdict
abbrev pub decided_by : {V : Type 0} → RegistryView V → EventKind → ℕ → ℕ → Slot → V → RegistryView V
decided_by v kind m l slot verdict = record {
  slots = slice_set v.slots m slot;
  verdicts = slice_set v.verdicts m (Some verdict);
  history = v.history ++ event kind m l ∷ [];
  open_claims = open_after kind v.open_claims;
}
