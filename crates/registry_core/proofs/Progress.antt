-- Where not all is decided, no claim was withdrawn and nothing can be claimed, something is claimed.
use Rattle.std.proofs.Common.{◌≡◌, ℕ, zero, suc, ◌<◌, ◌||◌, ◌&&◌, Bool, true, false, List, [], ◌∷◌, length, refl, sym, ap, ◌∙◌, arith, true≢false}
use Rattle.std.specs.Prelude.{slice_index_or}
use Rattle.std.specs.List.{list_any, list_all}
use Rattle.std.proofs.lemmas.List.{get_or_default}
use Rattle.std.proofs.lemmas.List.Sums.{list_all-from_AllPass}
use Rattle.std.proofs.lemmas.List.Folds.{list_any_at}
use Rattle.import_graph.specs.Graph.{has}
use Rattle.import_graph.specs.Needs.{IsNeed}
use Rattle.import_graph.proofs.Worlds.{has_first, has_later}
use Rattle.registry_core.specs.declared.slot.Slot.{Slot}
use Rattle.registry_core.specs.declared.slot.Slot.TheVariants.{Waiting}
use Rattle.registry_core.specs.Slots.{is_waiting, is_decided, is_claimed, is_withdrawn, slot_at, all_decided, is_ready}
use Rattle.registry_core.proofs.SlotLaws.{waits_else}

-- one of a list that is not all decided
undecided_one : (slots : List Slot) (ms : List ℕ) → all_decided slots ms ≡ false → (d : ℕ) × (has d ms ≡ true) × (is_decided (slot_at slots d) ≡ false)
undecided_one slots [] h = absurd (true≢false h)
undecided_one slots (m ∷ ms) h = by (is_decided (slot_at slots m)) refl (undecided_one slots ms)
  where
    by : (b : Bool) → is_decided (slot_at slots m) ≡ b → (all_decided slots ms ≡ false → (d : ℕ) × (has d ms ≡ true) × (is_decided (slot_at slots d) ≡ false)) → (d : ℕ) × (has d (m ∷ ms) ≡ true) × (is_decided (slot_at slots d) ≡ false)
    by true e rest = let w = rest (sym (ap (λ b. b && all_decided slots ms) e) ∙ h) in (w.0, has_later w.0 m ms w.1, w.2)
    by false e rest = (m, has_first m ms, e)

not_ready : (w c a : Bool) → w ≡ true → w && (c || a) ≡ false → (c ≡ false) × (a ≡ false)
not_ready true true a w h = absurd (true≢false h)
not_ready true false true w h = absurd (true≢false h)
not_ready true false false w h = (refl, refl)
not_ready false c a w h = absurd (true≢false (sym w))

none_at : (p : Slot → Bool) (slots : List Slot) → list_any p slots ≡ false → (k : ℕ) → k < length slots → p (slot_at slots k) ≡ false
none_at p slots h k lt = by (p (slot_at slots k)) refl
  where
    by : (b : Bool) → p (slot_at slots k) ≡ b → p (slot_at slots k) ≡ false
    by true e = absurd (true≢false (sym (list_any_at p slots k Waiting lt e) ∙ h))
    by false e = e

-- from a waiting module one gets to one that may be claimed, where nothing is claimed or withdrawn
reaches_ready : (count : ℕ) (direct need : ℕ → List ℕ) (is_cyclic : ℕ → Bool) → IsNeed count direct need is_cyclic → (slots : List Slot) → length slots ≡ count
    → list_any is_claimed slots ≡ false → list_any is_withdrawn slots ≡ false → ((m : ℕ) → m < count → is_ready direct is_cyclic slots m ≡ false)
    → (k m : ℕ) → length (need m) < k → m < count → is_waiting (slot_at slots m) ≡ true → ⊥
reaches_ready count direct need is_cyclic law slots same nc nw none zero m a lt w = absurd (omega arith)
reaches_ready count direct need is_cyclic law slots same nc nw none (suc k) m a lt w =
    let n = not_ready (is_waiting (slot_at slots m)) (is_cyclic m) (all_decided slots (direct m)) w (none m lt) in
    let d = undecided_one slots (direct m) n.1 in
    let there = law.within m d.0 d.1 in
    let below = law.falls m d.0 (law.direct_in m d.0 n.0 d.1) in
    let in_slots : d.0 < length slots = omega (arith, there, same) in
    reaches_ready count direct need is_cyclic law slots same nc nw none k d.0 (omega (arith, below, a)) there
    (waits_else (slot_at slots d.0) d.2 (none_at is_claimed slots nc d.0 in_slots) (none_at is_withdrawn slots nw d.0 in_slots))

decided_or : (b : Bool) → (b ≡ false → ⊥) → b ≡ true
decided_or true f = refl
decided_or false f = absurd (f refl)

pub some_claimed : (count : ℕ) (direct need : ℕ → List ℕ) (is_cyclic : ℕ → Bool) → IsNeed count direct need is_cyclic → (slots : List Slot) → length slots ≡ count
    → list_all is_decided slots ≡ false → list_any is_withdrawn slots ≡ false → ((m : ℕ) → m < count → is_ready direct is_cyclic slots m ≡ false) → list_any is_claimed slots ≡ true
some_claimed count direct need is_cyclic law slots same not_all nw none = by (list_any is_claimed slots) refl
  where
    by : (b : Bool) → list_any is_claimed slots ≡ b → list_any is_claimed slots ≡ true
    by true e = e
    by false e =
        let every : (k : ℕ) (d : Slot) → k < length slots → is_decided (slice_index_or slots k d) ≡ true = λ k d lt.
        decided_or (is_decided (slice_index_or slots k d))
        (λ u. reaches_ready count direct need is_cyclic law slots same e nw none (suc (length (need k))) k (omega arith) (omega (arith, lt, same))
        (waits_else (slot_at slots k) (ap is_decided (get_or_default slots k Waiting d lt) ∙ u) (none_at is_claimed slots e k lt) (none_at is_withdrawn slots nw k lt))) in
        absurd (true≢false (sym (list_all-from_AllPass is_decided slots every) ∙ not_all))
