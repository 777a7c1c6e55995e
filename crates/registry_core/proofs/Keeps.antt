-- Each event keeps a registry right, and its places.
use Rattle.std.proofs.Common.{◌≡◌, ◌≢◌, ℕ, ◌+◌, ◌*◌, ◌<◌, ◌≤◌, ◌||◌, Bool, true, false, cond, List, [], ◌∷◌, ◌++◌, length, Option, Some, None, refl, sym, ap, ◌∙◌, subst, ⊎_elim, arith, true≢false, length-append, length-set}
use Rattle.std.specs.Prelude.{slice_index_or, slice_set}
use Rattle.std.proofs.lemmas.List.{get_or-set_same, get_or-set_other, length-replicate}
use Rattle.std.proofs.lemmas.List.Sums.{sum_by-set, sum_by-le}
use Rattle.std.proofs.lemmas.List.Folds.{sum_by-replicate}
use Rattle.import_graph.specs.Needs.{IsNeed}
use Rattle.import_graph.specs.World.{Rules, world}
use Rattle.import_graph.proofs.Bools.{and_left, and_right}
use Rattle.registry_core.specs.declared.slot.Slot.{Slot}
use Rattle.registry_core.specs.declared.slot.Slot.TheVariants.{Waiting, Claimed, Published, Withdrawn}
use Rattle.registry_core.specs.declared.slot.EventKind.{EventKind}
use Rattle.registry_core.specs.declared.slot.EventKind.TheVariants.{Claim, Publish, Refuse, Withdraw}
use Rattle.registry_core.specs.declared.slot.Event.{Event}
use Rattle.registry_core.specs.Slots.{is_decided, is_waiting, is_claimed, slot_at, all_decided, event}
use Rattle.registry_core.specs.Machine.{State, start, verdict_at, right_over, MayClaim, MayDecide, Legal, after, Leads}
use Rattle.registry_core.specs.Right.{IsRight, Happened}
use Rattle.registry_core.specs.Kept.{HasPlaces, events_in}
use Rattle.registry_core.specs.Decision.{decision, decided_slot}
use Rattle.registry_core.proofs.Lists.{same_or_not, all_same}
use Rattle.registry_core.proofs.SlotLaws.{is_there, waiting_is, events_le, ready_set}
use Rattle.registry_core.proofs.Decided.{right_is}
use Rattle.registry_core.proofs.Events.{Leads-append, happened_more}

abbrev pub one_if : Bool → ℕ
one_if b = cond b 1 0

-- where every module waits
pub start_right : {D : Type 0} (R : Rules D) (count : ℕ) → IsRight R count (start count) [] 0
start_right R count = record {
  run = refl;
  worlds = λ m. all_same count m None ∙ sym (ap (λ s. cond (is_decided s) (Some (world R m)) None) (all_same count m Waiting));
  ready = λ m h. absurd (true≢false (sym (ap is_waiting (all_same count m Waiting)) ∙ h));
  events = λ m. subst (λ s. Happened s m []) (sym (all_same count m Waiting)) refl;
  book = sym (sum_by-replicate (λ s. one_if (is_claimed s)) count Waiting ∙ omega arith);
}

pub start_places : {D : Type 0} (count capacity : ℕ) → count * 2 ≤ capacity → HasPlaces {D = D} count (start count) [] capacity
start_places count capacity room = record {
  slots = length-replicate count Waiting;
  verdicts = length-replicate count None;
  counted = sym (sum_by-replicate events_in count Waiting ∙ omega arith);
  room = room;
}

-- there is room for an event of a module that hasn't had two
pub room_left : {D : Type 0} (count : ℕ) (s : State D) (history : List Event) (capacity m : ℕ) → m < count → events_in (slot_at s.slots m) < 2 → HasPlaces count s history capacity → length history < capacity
room_left count s history capacity m there more old =
    let lt : m < length s.slots = omega (arith, there, old.slots) in
    let most = sum_by-le events_in 2 (slice_set s.slots m Published) (λ k d h. events_le (slice_index_or (slice_set s.slots m Published) k d)) in
    omega (arith, sum_by-set events_in s.slots m Published Waiting lt, most, more, old.counted, old.slots, old.room, length-set s.slots m Published)

-- the places after an event of m
pub places_more : {D : Type 0} (count : ℕ) (s : State D) (history : List Event) (capacity m l : ℕ) (kind : EventKind) (slot : Slot) (verdicts : List (Option D))
    → m < count → events_in slot ≡ events_in (slot_at s.slots m) + 1 → length verdicts ≡ length s.verdicts → HasPlaces count s history capacity
    → HasPlaces count (record { slots = slice_set s.slots m slot; verdicts = verdicts }) (history ++ event kind m l ∷ []) capacity
places_more count s history capacity m l kind slot verdicts there one same old =
    let lt : m < length s.slots = omega (arith, there, old.slots) in
    record {
      slots = length-set s.slots m slot ∙ old.slots;
      verdicts = same ∙ old.verdicts;
      counted = omega (arith, length-append history (event kind m l ∷ []), sum_by-set events_in s.slots m slot Waiting lt, one, old.counted);
      room = old.room;
    }

pub waits_of : {D : Type 0} (R : Rules D) (s : State D) (m : ℕ) → MayClaim R s m → slot_at s.slots m ≡ Waiting
waits_of R s m may = waiting_is (slot_at s.slots m) (and_left (is_waiting (slot_at s.slots m)) (R.is_cyclic m || all_decided s.slots (R.direct m)) may.ready)

-- a module that may be claimed is claimed
pub claim_right : {D : Type 0} (R : Rules D) (count : ℕ) (s : State D) (history : List Event) (open_claims more m l : ℕ)
    → MayClaim R s m → more ≡ open_claims + 1
    → IsRight R count s history open_claims → IsRight R count (record s { slots = slice_set s.slots m (Claimed l) }) (history ++ event Claim m l ∷ []) more
claim_right R count s history open_claims more m l may up old = record {
  run = Leads-append R (start count) s history Claim m l old.run may;
  worlds = λ k. ⊎_elim
      (λ (e : k ≡ m). ap (verdict_at s.verdicts) e ∙ old.worlds m ∙ ap (λ x. cond (is_decided x) (Some (world R m)) None) slot ∙ sym (ap (λ x. cond (is_decided x) (Some (world R m)) None) set_m) ∙ ap (λ j. cond (is_decided (slot_at (slice_set s.slots m (Claimed l)) j)) (Some (world R j)) None) (sym e))
      (λ (ne : k ≢ m). old.worlds k ∙ ap (λ x. cond (is_decided x) (Some (world R k)) None) (sym (get_or-set_other s.slots m k (Claimed l) Waiting ne)))
      (same_or_not k m);
  ready = ready_set R.direct R.is_cyclic s.slots m (Claimed l) may.there (λ d. absurd (true≢false (sym d ∙ ap is_decided slot))) direct old.ready;
  events = happened_more s.slots history Claim m l (Claimed l) may.there (λ events h. ap (λ es. es ++ event Claim m l ∷ []) (subst (λ x. Happened x m events) slot h)) old.events;
  book = omega (arith, sum_by-set (λ x. one_if (is_claimed x)) s.slots m (Claimed l) Waiting may.there, ap (λ x. one_if (is_claimed x)) slot, old.book, up);
}
  where
    slot : slot_at s.slots m ≡ Waiting
    slot = waits_of R s m may

    direct : R.is_cyclic m || all_decided s.slots (R.direct m) ≡ true
    direct = and_right (is_waiting (slot_at s.slots m)) (R.is_cyclic m || all_decided s.slots (R.direct m)) may.ready

    set_m : slot_at (slice_set s.slots m (Claimed l)) m ≡ Claimed l
    set_m = get_or-set_same s.slots m (Claimed l) Waiting may.there

legal_decision : {D : Type 0} (R : Rules D) (s : State D) (refused : Bool) (m l : ℕ) → MayDecide R s refused m l → Legal R s (decision refused) m l
legal_decision R s true m l h = h
legal_decision R s false m l h = h

after_decision : {D : Type 0} (R : Rules D) (s : State D) (refused : Bool) (m l : ℕ)
    → after R s (decision refused) m l ≡ record { slots = slice_set s.slots m (decided_slot refused); verdicts = slice_set s.verdicts m (Some (right_over R s m)) }
after_decision R s true m l = refl
after_decision R s false m l = refl

pub decided_is : (refused : Bool) → is_decided (decided_slot refused) ≡ true
decided_is true = refl
decided_is false = refl

pub decided_unclaimed : (refused : Bool) → is_claimed (decided_slot refused) ≡ false
decided_unclaimed true = refl
decided_unclaimed false = refl

pub decided_events : (refused : Bool) → events_in (decided_slot refused) ≡ 2
decided_events true = refl
decided_events false = refl

happened_decision : (refused : Bool) (m l : ℕ) (events : List Event) → events ≡ event Claim m l ∷ [] → Happened (decided_slot refused) m (events ++ event (decision refused) m l ∷ [])
happened_decision true m l events h = (l, ap (λ es. es ++ event Refuse m l ∷ []) h)
happened_decision false m l events h = (l, ap (λ es. es ++ event Publish m l ∷ []) h)

-- a claimed module is decided, with the data of its world
pub decide_right : {D : Type 0} (R : Rules D) (count : ℕ) (s : State D) (history : List Event) (open_claims left m l : ℕ) (refused : Bool) (d : D)
    → IsNeed count R.direct R.need R.is_cyclic → length s.verdicts ≡ length s.slots
    → slot_at s.slots m ≡ Claimed l → d ≡ world R m → R.is_refused d ≡ refused → left + 1 ≡ open_claims
    → IsRight R count s history open_claims
    → IsRight R count (record { slots = slice_set s.slots m (decided_slot refused); verdicts = slice_set s.verdicts m (Some d) }) (history ++ event (decision refused) m l ∷ []) left
decide_right {D} R count s history open_claims left m l refused d law same slot is fine less old = record {
  run = subst (λ (t : State D). Leads R (start count) (history ++ event (decision refused) m l ∷ []) t)
      (after_decision R s refused m l ∙ ap (λ x. record { slots = slice_set s.slots m (decided_slot refused); verdicts = slice_set s.verdicts m (Some x) }) (done ∙ sym is))
      (Leads-append R (start count) s history (decision refused) m l old.run (legal_decision R s refused m l (record { claimed = slot; right = ap R.is_refused (done ∙ sym is) ∙ fine })));
  worlds = λ k. ⊎_elim
      (λ (e : k ≡ m). ap (verdict_at (slice_set s.verdicts m (Some d))) e ∙ get_or-set_same s.verdicts m (Some d) None vlt ∙ ap Some is ∙ sym (ap (λ x. cond x (Some (world R m)) None) (ap is_decided set_m ∙ decided_is refused)) ∙ ap (λ j. cond (is_decided (slot_at (slice_set s.slots m (decided_slot refused)) j)) (Some (world R j)) None) (sym e))
      (λ (ne : k ≢ m). get_or-set_other s.verdicts m k (Some d) None ne ∙ old.worlds k ∙ ap (λ x. cond (is_decided x) (Some (world R k)) None) (sym (get_or-set_other s.slots m k (decided_slot refused) Waiting ne)))
      (same_or_not k m);
  ready = ready_set R.direct R.is_cyclic s.slots m (decided_slot refused) lt (λ _. decided_is refused) may old.ready;
  events = happened_more s.slots history (decision refused) m l (decided_slot refused) lt (λ events h. happened_decision refused m l events (subst (λ x. Happened x m events) slot h)) old.events;
  book = omega (arith, sum_by-set (λ x. one_if (is_claimed x)) s.slots m (decided_slot refused) Waiting lt, ap (λ x. one_if (is_claimed x)) slot, ap one_if (decided_unclaimed refused), old.book, less);
}
  where
    not_waiting : is_waiting (slot_at s.slots m) ≡ false
    not_waiting = ap is_waiting slot

    lt : m < length s.slots
    lt = is_there s.slots m not_waiting

    vlt : m < length s.verdicts
    vlt = omega (arith, lt, same)

    may : R.is_cyclic m || all_decided s.slots (R.direct m) ≡ true
    may = old.ready m not_waiting

    set_m : slot_at (slice_set s.slots m (decided_slot refused)) m ≡ decided_slot refused
    set_m = get_or-set_same s.slots m (decided_slot refused) Waiting lt

    done : right_over R s m ≡ world R m
    done = right_is R count law s old.ready old.worlds m may

-- a claimed module is withdrawn
pub withdraw_right : {D : Type 0} (R : Rules D) (count : ℕ) (s : State D) (history : List Event) (open_claims left m l : ℕ)
    → slot_at s.slots m ≡ Claimed l → left + 1 ≡ open_claims
    → IsRight R count s history open_claims → IsRight R count (record s { slots = slice_set s.slots m Withdrawn }) (history ++ event Withdraw m l ∷ []) left
withdraw_right R count s history open_claims left m l slot less old = record {
  run = Leads-append R (start count) s history Withdraw m l old.run slot;
  worlds = λ k. ⊎_elim
      (λ (e : k ≡ m). ap (verdict_at s.verdicts) e ∙ old.worlds m ∙ ap (λ x. cond (is_decided x) (Some (world R m)) None) slot ∙ sym (ap (λ x. cond (is_decided x) (Some (world R m)) None) set_m) ∙ ap (λ j. cond (is_decided (slot_at (slice_set s.slots m Withdrawn) j)) (Some (world R j)) None) (sym e))
      (λ (ne : k ≢ m). old.worlds k ∙ ap (λ x. cond (is_decided x) (Some (world R k)) None) (sym (get_or-set_other s.slots m k Withdrawn Waiting ne)))
      (same_or_not k m);
  ready = ready_set R.direct R.is_cyclic s.slots m Withdrawn lt (λ d. absurd (true≢false (sym d ∙ ap is_decided slot))) (old.ready m (ap is_waiting slot)) old.ready;
  events = happened_more s.slots history Withdraw m l Withdrawn lt (λ events h. (l, ap (λ es. es ++ event Withdraw m l ∷ []) (subst (λ x. Happened x m events) slot h))) old.events;
  book = omega (arith, sum_by-set (λ x. one_if (is_claimed x)) s.slots m Withdrawn Waiting lt, ap (λ x. one_if (is_claimed x)) slot, old.book, less);
}
  where
    lt : m < length s.slots
    lt = is_there s.slots m (ap is_waiting slot)

    set_m : slot_at (slice_set s.slots m Withdrawn) m ≡ Withdrawn
    set_m = get_or-set_same s.slots m Withdrawn Waiting lt
