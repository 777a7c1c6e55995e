-- Slots before and after one is set.
use Rattle.std.proofs.Common.{◌≡◌, ◌≢◌, ℕ, zero, suc, ◌<◌, ◌≤◌, ◌==◌, ◌||◌, Bool, true, false, List, [], ◌∷◌, length, refl, sym, ap, ◌∙◌, subst, ⊎_elim, arith, true≢false}
use Rattle.std.specs.Prelude.{slice_set}
use Rattle.std.proofs.lemmas.Bool.Decides.{nat_tests}
use Rattle.std.proofs.lemmas.List.{get_or-set_same, get_or-set_other}
use Rattle.import_graph.specs.Graph.{has}
use Rattle.import_graph.proofs.Bools.{and_left, and_right, and_both}
use Rattle.registry_core.specs.declared.slot.Slot.{Slot}
use Rattle.registry_core.specs.declared.slot.Slot.TheVariants.{Waiting, Claimed, Published, Refused, Withdrawn}
use Rattle.registry_core.specs.Slots.{is_waiting, is_claimed, is_decided, is_withdrawn, slot_at, all_decided}
use Rattle.registry_core.specs.Kept.{events_in}
use Rattle.registry_core.proofs.Lists.{same_or_not}

-- a module that doesn't wait is there
pub is_there : (slots : List Slot) (m : ℕ) → is_waiting (slot_at slots m) ≡ false → m < length slots
is_there [] m h = absurd (true≢false h)
is_there (s ∷ slots) zero h = omega arith
is_there (s ∷ slots) (suc m) h = let r = is_there slots m h in omega (arith, r)

pub waiting_is : (s : Slot) → is_waiting s ≡ true → s ≡ Waiting
waiting_is Waiting h = refl
waiting_is (Claimed l) h = absurd cc
waiting_is Published h = absurd cc
waiting_is Refused h = absurd cc
waiting_is Withdrawn h = absurd cc

pub decided_not_waiting : (s : Slot) → is_decided s ≡ true → is_waiting s ≡ false
decided_not_waiting Waiting h = absurd cc
decided_not_waiting (Claimed l) h = refl
decided_not_waiting Published h = refl
decided_not_waiting Refused h = refl
decided_not_waiting Withdrawn h = refl

-- a slot that is neither decided nor claimed nor withdrawn waits
pub waits_else : (s : Slot) → is_decided s ≡ false → is_claimed s ≡ false → is_withdrawn s ≡ false → is_waiting s ≡ true
waits_else Waiting a b c = refl
waits_else (Claimed l) a b c = absurd (true≢false b)
waits_else Published a b c = absurd (true≢false a)
waits_else Refused a b c = absurd (true≢false a)
waits_else Withdrawn a b c = absurd (true≢false c)

pub events_le : (s : Slot) → events_in s ≤ 2
events_le Waiting = omega arith
events_le (Claimed l) = omega arith
events_le Published = omega arith
events_le Refused = omega arith
events_le Withdrawn = omega arith

pub all_decided_at : (slots : List Slot) (ms : List ℕ) → all_decided slots ms ≡ true → (n : ℕ) → has n ms ≡ true → is_decided (slot_at slots n) ≡ true
all_decided_at slots [] all n h = absurd cc
all_decided_at slots (m ∷ ms) all n h = by (n == m) refl (all_decided_at slots ms (and_right (is_decided (slot_at slots m)) (all_decided slots ms) all) n)
  where
    by : (b : Bool) → (n == m) ≡ b → (has n ms ≡ true → is_decided (slot_at slots n) ≡ true) → is_decided (slot_at slots n) ≡ true
    by true e rest =
        let same : n ≡ m = grind (arith, nat_tests) in
        subst (λ (k : ℕ). is_decided (slot_at slots k) ≡ true) (sym same) (and_left (is_decided (slot_at slots m)) (all_decided slots ms) all)
    by false e rest = rest (sym (ap (λ (b : Bool). b || has n ms) e) ∙ h)

-- what is decided stays so where a slot is set that wasn't, or to one that is
pub decided_set : (slots : List Slot) (m : ℕ) (s : Slot) → m < length slots → (is_decided (slot_at slots m) ≡ true → is_decided s ≡ true)
    → (k : ℕ) → is_decided (slot_at slots k) ≡ true → is_decided (slot_at (slice_set slots m s) k) ≡ true
decided_set slots m s lt keep k h =
    ⊎_elim
    (λ (e : k ≡ m). ap is_decided (ap (slot_at (slice_set slots m s)) e ∙ get_or-set_same slots m s Waiting lt) ∙ keep (ap (λ j. is_decided (slot_at slots j)) (sym e) ∙ h))
    (λ (ne : k ≢ m). ap is_decided (get_or-set_other slots m k s Waiting ne) ∙ h)
    (same_or_not k m)

pub all_decided_set : (slots : List Slot) (m : ℕ) (s : Slot) → m < length slots → (is_decided (slot_at slots m) ≡ true → is_decided s ≡ true)
    → (ms : List ℕ) → all_decided slots ms ≡ true → all_decided (slice_set slots m s) ms ≡ true
all_decided_set slots m s lt keep [] h = refl
all_decided_set slots m s lt keep (k ∷ ks) h =
    and_both (is_decided (slot_at (slice_set slots m s) k)) (all_decided (slice_set slots m s) ks)
    (decided_set slots m s lt keep k (and_left (is_decided (slot_at slots k)) (all_decided slots ks) h))
    (all_decided_set slots m s lt keep ks (and_right (is_decided (slot_at slots k)) (all_decided slots ks) h))

or_mono : (a b c : Bool) → (b ≡ true → c ≡ true) → a || b ≡ true → a || c ≡ true
or_mono true b c f h = refl
or_mono false b c f h = f h

-- what is claimed or decided was ready, and stays so
pub ready_set : (direct : ℕ → List ℕ) (is_cyclic : ℕ → Bool) (slots : List Slot) (m : ℕ) (s : Slot) → m < length slots → (is_decided (slot_at slots m) ≡ true → is_decided s ≡ true)
    → is_cyclic m || all_decided slots (direct m) ≡ true
    → ((k : ℕ) → is_waiting (slot_at slots k) ≡ false → is_cyclic k || all_decided slots (direct k) ≡ true)
    → (k : ℕ) → is_waiting (slot_at (slice_set slots m s) k) ≡ false → is_cyclic k || all_decided (slice_set slots m s) (direct k) ≡ true
ready_set direct is_cyclic slots m s lt keep may ready k h =
    ⊎_elim
    (λ (e : k ≡ m).
    subst (λ (j : ℕ). is_cyclic j || all_decided (slice_set slots m s) (direct j) ≡ true) (sym e)
    (or_mono (is_cyclic m) (all_decided slots (direct m)) (all_decided (slice_set slots m s) (direct m)) (all_decided_set slots m s lt keep (direct m)) may))
    (λ (ne : k ≢ m).
    or_mono (is_cyclic k) (all_decided slots (direct k)) (all_decided (slice_set slots m s) (direct k)) (all_decided_set slots m s lt keep (direct k))
    (ready k (sym (ap is_waiting (get_or-set_other slots m k s Waiting ne)) ∙ h)))
    (same_or_not k m)
