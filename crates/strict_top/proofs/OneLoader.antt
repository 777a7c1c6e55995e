-- The slots of a registry with one loader: none is claimed or withdrawn, and so it is again once a claimed module is decided.
use Rattle.std.proofs.Common.{◌≡◌, ℕ, zero, suc, Bool, true, false, List, [], ◌∷◌, refl, ap, ◌∙◌}
use Rattle.std.specs.Prelude.{slice_set, replicate}
use Rattle.std.specs.List.{list_any}
use Rattle.std.proofs.lemmas.Bool.{or_from, or_parts}
use Rattle.registry_core.specs.declared.slot.Slot.{Slot}
use Rattle.registry_core.specs.declared.slot.Slot.TheVariants.{Waiting, Claimed, Published, Refused, Withdrawn}
use Rattle.registry_core.specs.Slots.{is_claimed, is_decided, is_withdrawn}
use Rattle.strict_top.specs.Deciding.{IsDecidedAt}

unclaimed : (s : Slot) → is_decided s ≡ true → is_claimed s ≡ false
unclaimed Waiting h = absurd cc
unclaimed (Claimed l) h = absurd cc
unclaimed Published h = refl
unclaimed Refused h = refl
unclaimed Withdrawn h = absurd cc

not_withdrawn : (s : Slot) → is_decided s ≡ true → is_withdrawn s ≡ false
not_withdrawn Waiting h = refl
not_withdrawn (Claimed l) h = refl
not_withdrawn Published h = refl
not_withdrawn Refused h = refl
not_withdrawn Withdrawn h = absurd cc

-- a new registry
pub none_of_waiting : (p : Slot → Bool) (count : ℕ) → p Waiting ≡ false → list_any p (replicate count Waiting) ≡ false
none_of_waiting p zero h = refl
none_of_waiting p (suc count) h = or_from (p Waiting) (list_any p (replicate count Waiting)) h (none_of_waiting p count h)

none_set_twice : (p : Slot → Bool) (slots : List Slot) (m : ℕ) (s t : Slot) → list_any p slots ≡ false → p t ≡ false
    → list_any p (slice_set (slice_set slots m s) m t) ≡ false
none_set_twice p [] m s t h e = refl
none_set_twice p (x ∷ slots) zero s t h e = or_from (p t) (list_any p slots) e (or_parts (p x) (list_any p slots) h).1
none_set_twice p (x ∷ slots) (suc m) s t h e =
    let parts = or_parts (p x) (list_any p slots) h in
    or_from (p x) (list_any p (slice_set (slice_set slots m s) m t)) parts.0 (none_set_twice p slots m s t parts.1 e)

-- a module was claimed, and then decided
none_after : (p : Slot → Bool) → ((s : Slot) → is_decided s ≡ true → p s ≡ false) → (old between new : List Slot) (m : ℕ) (s : Slot)
    → between ≡ slice_set old m s → IsDecidedAt between new m → list_any p old ≡ false → list_any p new ≡ false
none_after p of_decided old between new m s claimed decided h =
    ap (list_any p) (decided.stored ∙ ap (λ (slots : List Slot). slice_set slots m decided.slot) claimed)
    ∙ none_set_twice p old m s decided.slot h (of_decided decided.slot decided.is_decided)

pub none_claimed_after : (old between new : List Slot) (m : ℕ) (s : Slot) → between ≡ slice_set old m s → IsDecidedAt between new m
    → list_any is_claimed old ≡ false → list_any is_claimed new ≡ false
none_claimed_after = none_after is_claimed unclaimed

pub none_withdrawn_after : (old between new : List Slot) (m : ℕ) (s : Slot) → between ≡ slice_set old m s → IsDecidedAt between new m
    → list_any is_withdrawn old ≡ false → list_any is_withdrawn new ≡ false
none_withdrawn_after = none_after is_withdrawn not_withdrawn
