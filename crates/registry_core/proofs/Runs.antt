-- Every run of the machine leads to a right state.
use Rattle.std.proofs.Common.{◌≡◌, ◌≢◌, ◌⊎◌, inl, inr, ℕ, ◌||◌, Bool, true, false, true≢false, List, [], ◌∷◌, ◌++◌, length, Some, None, refl, sym, ap, ◌∙◌, subst, arith, length-set}
use Rattle.std.specs.Prelude.{slice_set, count_by}
use Rattle.std.proofs.lemmas.List.{get_or-set_other, append-nil, length-replicate}
use Rattle.std.proofs.lemmas.List.Sums.{sum_by-set}
use Rattle.import_graph.specs.Needs.{IsNeed}
use Rattle.import_graph.specs.World.{Rules, world}
use Rattle.registry_core.specs.declared.slot.Slot.{Slot}
use Rattle.registry_core.specs.declared.slot.Slot.TheVariants.{Waiting, Claimed, Published, Refused, Withdrawn}
use Rattle.registry_core.specs.declared.slot.EventKind.{EventKind}
use Rattle.registry_core.specs.declared.slot.EventKind.TheVariants.{Claim, Publish, Refuse, Withdraw}
use Rattle.registry_core.specs.declared.slot.Event.{Event}
use Rattle.registry_core.specs.Slots.{is_waiting, is_claimed, is_decided, is_withdrawn, slot_at, event}
use Rattle.registry_core.specs.Machine.{State, start, verdict_at, right_over, MayDecide, Legal, after, Leads}
use Rattle.registry_core.specs.Right.{IsRight}
use Rattle.registry_core.specs.Decision.{decision, decided_slot}
use Rattle.registry_core.proofs.Lists.{same_or_not}
use Rattle.registry_core.proofs.SlotLaws.{is_there}
use Rattle.registry_core.proofs.Decided.{right_is}
use Rattle.registry_core.proofs.Keeps.{start_right, claim_right, decide_right, withdraw_right, decided_unclaimed, waits_of, one_if}

-- as many slots as verdicts
abbrev Matches : {D : Type 0} → State D → Type 0
Matches s = length s.verdicts ≡ length s.slots

abbrev open_in : {D : Type 0} → State D → ℕ
open_in s = count_by is_claimed s.slots

decides : {D : Type 0} (R : Rules D) (count : ℕ) → IsNeed count R.direct R.need R.is_cyclic → (t : State D) (h : List Event) (m l : ℕ) (refused : Bool) → Matches t → IsRight R count t h (open_in t) → MayDecide R t refused m l
    → IsRight R count (record { slots = slice_set t.slots m (decided_slot refused); verdicts = slice_set t.verdicts m (Some (right_over R t m)) }) (h ++ event (decision refused) m l ∷ []) (count_by is_claimed (slice_set t.slots m (decided_slot refused)))
decides R count law t h m l refused same old may =
    let not_waiting = ap is_waiting may.claimed in
    let lt = is_there t.slots m not_waiting in
    let is : right_over R t m ≡ world R m = right_is R count law t old.ready old.worlds m (old.ready m not_waiting) in
    decide_right R count t h (open_in t) (count_by is_claimed (slice_set t.slots m (decided_slot refused))) m l refused (right_over R t m) law same may.claimed is may.right
    (omega (arith, sum_by-set (λ x. one_if (is_claimed x)) t.slots m (decided_slot refused) Waiting lt, ap (λ x. one_if (is_claimed x)) may.claimed, ap one_if (decided_unclaimed refused))) old

step : {D : Type 0} (R : Rules D) (count : ℕ) → IsNeed count R.direct R.need R.is_cyclic → (t : State D) (h : List Event) (kind : EventKind) (m l : ℕ) → Matches t → IsRight R count t h (open_in t) → Legal R t kind m l
    → IsRight R count (after R t kind m l) (h ++ event kind m l ∷ []) (open_in (after R t kind m l))
step R count law t h Claim m l same old may =
    claim_right R count t h (open_in t) (count_by is_claimed (slice_set t.slots m (Claimed l))) m l may
    (omega (arith, sum_by-set (λ x. one_if (is_claimed x)) t.slots m (Claimed l) Waiting may.there, ap (λ x. one_if (is_claimed x)) (waits_of R t m may))) old
step R count law t h Publish m l same old may = decides R count law t h m l false same old may
step R count law t h Refuse m l same old may = decides R count law t h m l true same old may
step R count law t h Withdraw m l same old may =
    let lt = is_there t.slots m (ap is_waiting may) in
    withdraw_right R count t h (open_in t) (count_by is_claimed (slice_set t.slots m Withdrawn)) m l may
    (omega (arith, sum_by-set (λ x. one_if (is_claimed x)) t.slots m Withdrawn Waiting lt, ap (λ x. one_if (is_claimed x)) may)) old

matches : {D : Type 0} (R : Rules D) (t : State D) (kind : EventKind) (m l : ℕ) → Matches t → Matches (after R t kind m l)
matches R t Claim m l same = same ∙ sym (length-set t.slots m (Claimed l))
matches R t Publish m l same = length-set t.verdicts m (Some (right_over R t m)) ∙ same ∙ sym (length-set t.slots m Published)
matches R t Refuse m l same = length-set t.verdicts m (Some (right_over R t m)) ∙ same ∙ sym (length-set t.slots m Refused)
matches R t Withdraw m l same = same ∙ sym (length-set t.slots m Withdrawn)

behind : (h es : List Event) (e : Event) → (h ++ e ∷ []) ++ es ≡ h ++ e ∷ es
behind [] es e = refl
behind (x ∷ h) es e = ap (λ r. x ∷ r) (behind h es e)

goes_on : {D : Type 0} (R : Rules D) (count : ℕ) → IsNeed count R.direct R.need R.is_cyclic → (es h : List Event) (t s : State D) → Matches t → IsRight R count t h (open_in t) → Leads R t es s → IsRight R count s (h ++ es) (open_in s)
goes_on {D} R count law [] h t s same old run = subst (λ (p : State D × List Event). IsRight R count p.0 p.1 (open_in p.0)) (λ i. (run i, sym (append-nil h) i)) old
goes_on R count law (e ∷ es) h t s same old run =
    subst (λ (x : List Event). IsRight R count s x (open_in s)) (behind h es e)
    (goes_on R count law es (h ++ e ∷ []) (after R t e.kind e.module e.loader) s (matches R t e.kind e.module e.loader same) (step R count law t h e.kind e.module e.loader same old run.0) run.1)

pub runs_right : {D : Type 0} (R : Rules D) (count : ℕ) → IsNeed count R.direct R.need R.is_cyclic → (history : List Event) (s : State D) → Leads R (start count) history s → IsRight R count s history (open_in s)
runs_right {D} R count law history s run =
    let begun : IsRight R count (start count) [] 0 = start_right R count in
    let same : Matches {D = D} (start count) = length-replicate count None ∙ sym (length-replicate count Waiting) in
    goes_on R count law history [] (start count) s same (subst (λ k. IsRight R count (start count) [] k) begun.book begun) run

pub other_slots : {D : Type 0} (R : Rules D) (s : State D) (kind : EventKind) (m l k : ℕ) → k ≢ m → slot_at (after R s kind m l).slots k ≡ slot_at s.slots k
other_slots R s Claim m l k ne = get_or-set_other s.slots m k (Claimed l) Waiting ne
other_slots R s Publish m l k ne = get_or-set_other s.slots m k Published Waiting ne
other_slots R s Refuse m l k ne = get_or-set_other s.slots m k Refused Waiting ne
other_slots R s Withdraw m l k ne = get_or-set_other s.slots m k Withdrawn Waiting ne

pub other_verdicts : {D : Type 0} (R : Rules D) (s : State D) (kind : EventKind) (m l k : ℕ) → k ≢ m → verdict_at (after R s kind m l).verdicts k ≡ verdict_at s.verdicts k
other_verdicts R s Claim m l k ne = refl
other_verdicts R s Publish m l k ne = get_or-set_other s.verdicts m k (Some (right_over R s m)) None ne
other_verdicts R s Refuse m l k ne = get_or-set_other s.verdicts m k (Some (right_over R s m)) None ne
other_verdicts R s Withdraw m l k ne = refl

-- a slot that is decided or withdrawn
abbrev has_ended : Slot → Bool
has_ended slot = is_decided slot || is_withdrawn slot

-- no event is legal of a module whose slot has ended
not_legal : {D : Type 0} (R : Rules D) (s : State D) (kind : EventKind) (m l : ℕ) → Legal R s kind m l → has_ended (slot_at s.slots m) ≡ true → ⊥
not_legal R s Claim m l may h = true≢false (sym h ∙ ap has_ended (waits_of R s m may))
not_legal R s Publish m l may h = true≢false (sym h ∙ ap has_ended may.claimed)
not_legal R s Refuse m l may h = true≢false (sym h ∙ ap has_ended may.claimed)
not_legal R s Withdraw m l may h = true≢false (sym h ∙ ap has_ended may)

pub record Stays {D : Type 0} (s t : State D) (m : ℕ) : Type 0 where
  pub slot : slot_at t.slots m ≡ slot_at s.slots m
  pub verdict : verdict_at t.verdicts m ≡ verdict_at s.verdicts m

stays_at : {D : Type 0} (R : Rules D) (s : State D) (kind : EventKind) (m l k : ℕ) → Legal R s kind m l → has_ended (slot_at s.slots k) ≡ true → (k ≡ m) ⊎ (k ≢ m) → Stays s (after R s kind m l) k
stays_at R s kind m l k legal h (inl same) = absurd (not_legal R s kind m l legal (subst (λ x. has_ended (slot_at s.slots x) ≡ true) same h))
stays_at R s kind m l k legal h (inr ne) = record { slot = other_slots R s kind m l k ne; verdict = other_verdicts R s kind m l k ne }

pub ended_stays : {D : Type 0} (R : Rules D) (es : List Event) (s t : State D) (m : ℕ) → Leads R s es t → has_ended (slot_at s.slots m) ≡ true → Stays s t m
ended_stays R [] s t m run h = subst (λ x. Stays s x m) run (record { slot = refl; verdict = refl })
ended_stays R (e ∷ es) s t m run h =
    let now = stays_at R s e.kind e.module e.loader m run.0 h (same_or_not m e.module) in
    let later = ended_stays R es (after R s e.kind e.module e.loader) t m run.1 (ap has_ended now.slot ∙ h) in
    record { slot = later.slot ∙ now.slot; verdict = later.verdict ∙ now.verdict }
