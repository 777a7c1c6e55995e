-- What `take` answers.
use Rattle.std.specs.Prelude.{◌≡◌, ◌<◌, ℕ, List}
use Rattle.registry_core.specs.declared.loads.Loads.{Ghosts as LoadsGhosts}
use Rattle.registry_core.specs.declared.naming.Naming.{Ghosts as NamingGhosts}
use Rattle.registry_core.specs.declared.imports.Import.{Import}
use Rattle.registry_core.specs.Named.{module_count, IsNeedOf}
use Rattle.registry_lock.specs.declared.taken.Taken.{Taken}
use Rattle.registry_lock.specs.declared.taken.Taken.TheVariants.{Claimed, AllDecided, Stopped, Memory}

module _ {A : Type 0} where
  -- a fact for a claim, and one for each other answer
  abbrev pub MatchTaken : Taken A → (ℕ → ℕ → Type 0) → Type 0 → Type 0
  MatchTaken (Claimed c) claimed other = claimed c.module c.loader
  MatchTaken (AllDecided f) claimed other = other
  MatchTaken (Stopped h) claimed other = other
  MatchTaken (Memory e) claimed other = other

  -- how many claims it opens
  abbrev pub opened : Taken A → ℕ
  opened (Claimed c) = 1
  opened (AllDecided f) = 0
  opened (Stopped h) = 0
  opened (Memory e) = 0

-- module m is there and claimed by l, the loader that asked, and each verdict of its need stands in exactly one of these rows, and no other
-- verdict in any
pub record IsTaken {L S V D N : Type 0} (T : LoadsGhosts L S V D) (M : NamingGhosts N L S) (rows : List (Import V)) (loader m l : ℕ) : Type 0 where
  pub by : l ≡ loader
  pub there : m < module_count M
  pub imports : IsNeedOf T M m rows
