-- No definitions of the loader: what the steps of a registry on one thread promise one another.
use Rattle.std.specs.Prelude.{◌≡◌, ℕ, true, List, slice_set}
use Rattle.registry_core.specs.declared.slot.Slot.{Slot}
use Rattle.registry_core.specs.Slots.{is_decided}

-- a module was decided, and no other slot changed
pub record IsDecidedAt (old new : List Slot) (m : ℕ) : Type 0 where
  pub slot : Slot
  pub is_decided : is_decided slot ≡ true
  pub stored : new ≡ slice_set old m slot
