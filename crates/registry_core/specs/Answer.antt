-- What `claim` answers.
use Rattle.std.specs.Prelude.{◌≡◌, ◌<◌, ℕ, true, false, ⊤, List, map}
use Rattle.std.specs.List.{list_any}
use Rattle.import_graph.specs.Closure.{need_of}
use Rattle.registry_core.specs.declared.loads.Loads.{Ghosts as LoadsGhosts}
use Rattle.registry_core.specs.declared.naming.Naming.{Ghosts as NamingGhosts}
use Rattle.registry_core.specs.declared.imports.Import.{Import}
use Rattle.registry_core.specs.declared.slot.Slot.{Slot}
use Rattle.registry_core.specs.declared.slot.Slot.TheVariants.{Claimed as ClaimedBy}
use Rattle.registry_core.specs.declared.slot.EventKind.TheVariants.{Claim}
use Rattle.registry_core.specs.declared.claim.ClaimAnswer.{ClaimAnswer}
use Rattle.registry_core.specs.declared.claim.ClaimAnswer.TheVariants.{Claimed, AllDecided, Stopped, NoneReady, Memory}
use Rattle.registry_core.specs.Slots.{slot_at, is_claimed, is_withdrawn}
use Rattle.registry_core.specs.Verdicts.{named_graph}
use Rattle.registry_core.specs.View.{RegistryView, moved}
use Rattle.registry_core.specs.Named.{module_count, is_ready_in, IsNeedOf}

module _ {A : Type 0} where
  -- a fact for each answer but want of memory
  abbrev pub MatchClaim : ClaimAnswer A → (ℕ → ℕ → Type 0) → Type 0 → Type 0 → Type 0 → Type 0
  MatchClaim (Claimed c) claimed decided stopped none = claimed c.module c.loader
  MatchClaim (AllDecided f) claimed decided stopped none = decided
  MatchClaim (Stopped h) claimed decided stopped none = stopped
  MatchClaim NoneReady claimed decided stopped none = none
  MatchClaim (Memory e) claimed decided stopped none = ⊤

  -- a fact for each answer but Claimed
  abbrev pub UnlessClaimed : ClaimAnswer A → Type 0 → Type 0
  UnlessClaimed (Claimed c) fact = ⊤
  UnlessClaimed (AllDecided f) fact = fact
  UnlessClaimed (Stopped h) fact = fact
  UnlessClaimed NoneReady fact = fact
  UnlessClaimed (Memory e) fact = fact

  -- how many claims it opens
  abbrev pub opened : ClaimAnswer A → ℕ
  opened (Claimed c) = 1
  opened (AllDecided f) = 0
  opened (Stopped h) = 0
  opened NoneReady = 0
  opened (Memory e) = 0

-- module m, which was ready, is now claimed by l, the loader that asked, and the verdicts of its need were handed out, ascending
pub record IsHandedOut {L S V D N : Type 0} (T : LoadsGhosts L S V D) (M : NamingGhosts N L S) (old new : RegistryView V) (rows : List (Import V)) (loader m l : ℕ) : Type 0 where
  pub by : l ≡ loader
  pub there : m < module_count M
  pub ready : is_ready_in M old.slots m ≡ true
  pub running : list_any is_withdrawn old.slots ≡ false
  pub event : new ≡ moved old Claim m l (ClaimedBy l)
  pub slot : slot_at new.slots m ≡ ClaimedBy l
  pub imports : IsNeedOf T M m rows
  pub ascending : map (λ (row : Import V). row.module) rows ≡ need_of (named_graph M.sources) m

-- nothing can be claimed, no claim was withdrawn, and some module is claimed
pub record IsBusy {L S N : Type 0} (M : NamingGhosts N L S) (slots : List Slot) : Type 0 where
  pub running : list_any is_withdrawn slots ≡ false
  pub claimed : list_any is_claimed slots ≡ true
  pub none_ready : (m : ℕ) → m < module_count M → is_ready_in M slots m ≡ false
