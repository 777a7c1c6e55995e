-- The words of this crate, over what a type says that it loads (`L.Loads`) and what the name of a registry stands for (`N.Naming.own`).
use Rattle.std.specs.Prelude.{◌≡◌, ℕ, Bool, List, Some}
use Rattle.import_graph.specs.Closure.{count, direct_of, is_cyclic}
use Rattle.registry_core.specs.declared.loads.Loads.{Ghosts as LoadsGhosts}
use Rattle.registry_core.specs.declared.naming.Naming.{Ghosts as NamingGhosts}
use Rattle.registry_core.specs.declared.sources.Sources.{Sources}
use Rattle.registry_core.specs.declared.imports.Import.{Import}
use Rattle.registry_core.specs.declared.slot.Slot.{Slot}
use Rattle.registry_core.specs.Slots.{is_ready}
use Rattle.registry_core.specs.Machine.{verdict_at}
use Rattle.registry_core.specs.Verdicts.{rules_of, named_graph, IsWorld, Gathers, IsWhole}
use Rattle.registry_core.specs.Right.{IsRight}
use Rattle.registry_core.specs.View.{RegistryView, state_of}

-- how many modules there are
abbrev pub module_count : {L S N : Type 0} → NamingGhosts N L S → ℕ
module_count M = count (named_graph M.sources)

-- whether m waits, and is cyclic or has all its direct imports decided
abbrev pub is_ready_in : {L S N : Type 0} → NamingGhosts N L S → List Slot → ℕ → Bool
is_ready_in M slots m = is_ready (direct_of (named_graph M.sources)) (is_cyclic (named_graph M.sources)) slots m

-- the verdict is a right one of m over the world of its need
abbrev pub IsVerdictOf : {L S V D N : Type 0} → LoadsGhosts L S V D → NamingGhosts N L S → ℕ → V → Type 0
IsVerdictOf T M m v = IsWorld T.right T.is_right T.is_refused M.loads M.sources m v

-- each module of the need of m stands in exactly one of these rows, and no other module in any; each row has a right verdict
abbrev pub IsNeedOf : {L S V D N : Type 0} → LoadsGhosts L S V D → NamingGhosts N L S → ℕ → List (Import V) → Type 0
IsNeedOf T M m rows = Gathers T.right T.is_right T.is_refused M.loads M.sources m rows

-- there is one verdict for each module, a right one, and their data are the world
abbrev pub IsWorldOf : {L S V D N : Type 0} → LoadsGhosts L S V D → NamingGhosts N L S → List V → Type 0
IsWorldOf T M verdicts = IsWhole T.verdict_data T.right T.is_right T.is_refused M.loads M.sources verdicts

-- a right registry shows this, over what is named: its state by the data of its verdicts is right, and its verdicts are right ones
pub record IsRightView {L S V D N : Type 0} (T : LoadsGhosts L S V D) (M : NamingGhosts N L S) (v : RegistryView V) : Type 0 where
  pub loads : L
  pub sources : Sources S
  pub is_loads : M.loads ≡ Some loads
  pub is_sources : M.sources ≡ Some sources
  pub right_one : IsRight (rules_of T.right T.is_refused loads sources) (count sources.graph) (state_of T.verdict_data v) v.history v.open_claims
  pub right_verdicts : (m : ℕ) (verdict : V) → verdict_at v.verdicts m ≡ Some verdict → IsVerdictOf T M m verdict
