-- One event more.
use Rattle.std.proofs.Common.{◌≡◌, ◌≢◌, ℕ, ◌<◌, ◌≤◌, ◌==◌, true, false, cond, List, [], ◌∷◌, ◌++◌, length, sym, ap, ◌∙◌, subst, ⊎_elim, arith}
use Rattle.std.specs.Prelude.{slice_set, count_by}
use Rattle.std.proofs.lemmas.Bool.Decides.{nat_tests}
use Rattle.std.proofs.lemmas.List.{get_or-set_same, get_or-set_other, append-nil}
use Rattle.std.proofs.lemmas.List.Elements.{filter-append}
use Rattle.import_graph.specs.World.{Rules}
use Rattle.registry_core.specs.declared.slot.Slot.{Slot}
use Rattle.registry_core.specs.declared.slot.Slot.TheVariants.{Waiting, Claimed, Published, Refused, Withdrawn}
use Rattle.registry_core.specs.declared.slot.EventKind.{EventKind}
use Rattle.registry_core.specs.declared.slot.Event.{Event}
use Rattle.registry_core.specs.Slots.{slot_at, event, events_of}
use Rattle.registry_core.specs.Machine.{State, Legal, after, Leads}
use Rattle.registry_core.specs.Right.{Happened, is_claim}
use Rattle.registry_core.proofs.Lists.{same_or_not}

-- a run and a legal event behind it
pub Leads-append : {D : Type 0} (R : Rules D) (s t : State D) (es : List Event) (kind : EventKind) (m l : ℕ) → Leads R s es t → Legal R t kind m l → Leads R s (es ++ event kind m l ∷ []) (after R t kind m l)
Leads-append R s t [] kind m l run legal = (subst (λ (u : State _). Legal R u kind m l) (sym run) legal, ap (λ u. after R u kind m l) run)
Leads-append R s t (e ∷ es) kind m l run legal = (run.0, Leads-append R (after R s e.kind e.module e.loader) t es kind m l run.1 legal)

own_event : (history : List Event) (kind : EventKind) (m l : ℕ) → events_of m (history ++ event kind m l ∷ []) ≡ events_of m history ++ event kind m l ∷ []
own_event history kind m l =
    let yes : (m == m) ≡ true = grind (arith, nat_tests) in
    filter-append (λ (e : Event). e.module == m) history (event kind m l ∷ []) ∙ ap (λ b. events_of m history ++ cond b (event kind m l ∷ []) []) yes

other_event : (history : List Event) (kind : EventKind) (k m l : ℕ) → k ≢ m → events_of k (history ++ event kind m l ∷ []) ≡ events_of k history
other_event history kind k m l ne =
    let no : (m == k) ≡ false = grind (arith, nat_tests) in
    filter-append (λ (e : Event). e.module == k) history (event kind m l ∷ []) ∙ ap (λ b. events_of k history ++ cond b (event kind m l ∷ []) []) no ∙ append-nil (events_of k history)

-- an event of m, which brings m from its slot to this one
pub happened_more : (slots : List Slot) (history : List Event) (kind : EventKind) (m l : ℕ) (s : Slot) → m < length slots
    → ((events : List Event) → Happened (slot_at slots m) m events → Happened s m (events ++ event kind m l ∷ []))
    → ((k : ℕ) → Happened (slot_at slots k) k (events_of k history))
    → (k : ℕ) → Happened (slot_at (slice_set slots m s) k) k (events_of k (history ++ event kind m l ∷ []))
happened_more slots history kind m l s lt step all k =
    ⊎_elim
    (λ (same : k ≡ m).
    subst (λ (j : ℕ). Happened (slot_at (slice_set slots m s) j) j (events_of j (history ++ event kind m l ∷ []))) (sym same)
    (subst (λ (p : Slot × List Event). Happened p.0 m p.1) (λ i. (sym (get_or-set_same slots m s Waiting lt) i, sym (own_event history kind m l) i)) (step (events_of m history) (all m))))
    (λ (ne : k ≢ m).
    subst (λ (p : Slot × List Event). Happened p.0 k p.1) (λ i. (sym (get_or-set_other slots m k s Waiting ne) i, sym (other_event history kind k m l ne) i)) (all k))
    (same_or_not k m)

-- what happened has at most one claim
pub happened_once : (s : Slot) (m : ℕ) (events : List Event) → Happened s m events → count_by (λ (e : Event). is_claim e.kind) events ≤ 1
happened_once Waiting m events h = omega (arith, ap (count_by (λ (e : Event). is_claim e.kind)) h)
happened_once (Claimed l) m events h = omega (arith, ap (count_by (λ (e : Event). is_claim e.kind)) h)
happened_once Published m events h = omega (arith, ap (count_by (λ (e : Event). is_claim e.kind)) h.1)
happened_once Refused m events h = omega (arith, ap (count_by (λ (e : Event). is_claim e.kind)) h.1)
happened_once Withdrawn m events h = omega (arith, ap (count_by (λ (e : Event). is_claim e.kind)) h.1)
