-- No definition of a right registry: what the fields of a `Registry` keep, so that it is one.
use Rattle.std.specs.Prelude.{◌≡◌, ◌≤◌, ◌*◌, ℕ, true, List, length, take, Some, sum_by, slice_index_or}
use Rattle.import_graph.specs.Graph.{Rows}
use Rattle.import_graph.specs.Closure.{count, direct_of}
use Rattle.registry_core.specs.declared.loads.Loads.{Ghosts as LoadsGhosts}
use Rattle.registry_core.specs.declared.naming.Naming.{Ghosts as NamingGhosts}
use Rattle.registry_core.specs.declared.sources.Sources.{Sources}
use Rattle.registry_core.specs.declared.slot.Slot.{Slot}
use Rattle.registry_core.specs.declared.slot.Slot.TheVariants.{Waiting, Claimed, Published, Refused, Withdrawn}
use Rattle.registry_core.specs.declared.slot.Event.{Event}
use Rattle.registry_core.specs.Slots.{all_decided}
use Rattle.registry_core.specs.Machine.{State, verdict_at}
use Rattle.registry_core.specs.Verdicts.{rules_of}
use Rattle.registry_core.specs.Right.{IsRight}
use Rattle.registry_core.specs.View.{RegistryView, state_of}
use Rattle.registry_core.specs.Named.{IsVerdictOf}

-- how many events a module in this slot has had
abbrev pub events_in : Slot → ℕ
events_in Waiting = 0
events_in (Claimed l) = 1
events_in Published = 2
events_in Refused = 2
events_in Withdrawn = 2

-- there is a slot and a place for a verdict for each module, and room for two events of each
pub record HasPlaces {D : Type 0} (count : ℕ) (s : State D) (history : List Event) (capacity : ℕ) : Type 0 where
  pub slots : length s.slots ≡ count
  pub verdicts : length s.verdicts ≡ count
  pub counted : length history ≡ sum_by events_in s.slots
  pub room : count * 2 ≤ capacity

-- so many direct imports of each module, from the front, are decided
pub record HasFronts (graph : Rows) (slots : List Slot) (fronts : List ℕ) : Type 0 where
  pub all : length fronts ≡ count graph
  pub decided : (m : ℕ) → all_decided slots (take (slice_index_or fronts m 0) (direct_of graph m)) ≡ true

pub record IsKept {L S V D N : Type 0} (T : LoadsGhosts L S V D) (M : NamingGhosts N L S) (all : Sources S) (v : RegistryView V) (fronts : List ℕ) (capacity : ℕ) : Type 0 where
  pub loads : L
  pub is_loads : M.loads ≡ Some loads
  pub is_sources : M.sources ≡ Some all
  pub right_one : IsRight (rules_of T.right T.is_refused loads all) (count all.graph) (state_of T.verdict_data v) v.history v.open_claims
  pub places : HasPlaces (count all.graph) (state_of T.verdict_data v) v.history capacity
  pub seen : HasFronts all.graph v.slots fronts
  pub each : (m : ℕ) (verdict : V) → verdict_at v.verdicts m ≡ Some verdict → IsVerdictOf T M m verdict
