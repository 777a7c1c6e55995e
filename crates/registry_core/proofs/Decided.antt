-- The need of what may be claimed is decided, and so what is right over the stored verdicts is the world's.
use Rattle.std.proofs.Common.{◌≡◌, ℕ, ◌||◌, ◌&&◌, Bool, true, false, true≢false, cond, List, [], ◌∷◌, Option, Some, None, refl, sym, ap, ◌∙◌}
use Rattle.std.specs.Prelude.{is_some}
use Rattle.import_graph.specs.Graph.{Rows, has, IsRefusedAt}
use Rattle.import_graph.specs.Closure.{is_cyclic}
use Rattle.import_graph.proofs.Bools.{not_false}
use Rattle.import_graph.proofs.ByChains.{cyclic_is}
use Rattle.import_graph.specs.Needs.{IsNeed, IsReady}
use Rattle.import_graph.specs.World.{Rules, world, with_each}
use Rattle.import_graph.proofs.Worlds.{has_first, has_later, decides_needs, world_is}
use Rattle.registry_core.specs.declared.slot.Slot.{Slot}
use Rattle.registry_core.specs.Slots.{is_decided, is_waiting, slot_at, all_decided}
use Rattle.registry_core.specs.Machine.{State, stored, with_verdict, verdict_at, right_over}
use Rattle.registry_core.proofs.SlotLaws.{all_decided_at, decided_not_waiting}

or_false : (a b : Bool) → a ≡ false → a || b ≡ true → b ≡ true
or_false true b e h = absurd cc
or_false false b e h = h

stored_one : {D : Type 0} (n : ℕ) (o : Option D) (d : D) (rest : List (ℕ × D)) → o ≡ Some d → with_verdict n o rest ≡ (n, d) ∷ rest
stored_one n o d rest e = ap (λ x. with_verdict n x rest) e

stored_needs : {D : Type 0} (R : Rules D) (verdicts : List (Option D)) (ns : List ℕ) → ((n : ℕ) → has n ns ≡ true → verdict_at verdicts n ≡ Some (world R n)) → stored verdicts ns ≡ with_each (world R) ns
stored_needs R verdicts [] h = refl
stored_needs R verdicts (n ∷ ns) h =
    stored_one n (verdict_at verdicts n) (world R n) (stored verdicts ns) (h n (has_first n ns)) ∙ ap (λ r. (n, world R n) ∷ r) (stored_needs R verdicts ns (λ k i. h k (has_later k n ns i)))

pub ready_is : (direct : ℕ → List ℕ) (cyclic : ℕ → Bool) (slots : List Slot) (m : ℕ) → cyclic m || all_decided slots (direct m) ≡ true → IsReady direct cyclic (λ n. is_decided (slot_at slots n)) m
ready_is direct cyclic slots m may c d h = all_decided_at slots (direct m) (or_false (cyclic m) (all_decided slots (direct m)) c may) d h

-- the need of a module whose direct imports are decided is decided
pub need_of_ready : (count : ℕ) (direct need : ℕ → List ℕ) (cyclic : ℕ → Bool) → IsNeed count direct need cyclic → (slots : List Slot)
    → ((m : ℕ) → is_waiting (slot_at slots m) ≡ false → cyclic m || all_decided slots (direct m) ≡ true)
    → (m : ℕ) → cyclic m || all_decided slots (direct m) ≡ true → (n : ℕ) → has n (need m) ≡ true → is_decided (slot_at slots n) ≡ true
need_of_ready count direct need cyclic law slots ready m may n h =
    decides_needs count direct need cyclic law (λ k. is_decided (slot_at slots k))
    (λ k d. ready_is direct cyclic slots k (ready k (decided_not_waiting (slot_at slots k) d)))
    m (ready_is direct cyclic slots m may) n h

-- what is right over the stored verdicts is the world's
pub right_is : {D : Type 0} (R : Rules D) (count : ℕ) → IsNeed count R.direct R.need R.is_cyclic → (s : State D)
    → ((m : ℕ) → is_waiting (slot_at s.slots m) ≡ false → R.is_cyclic m || all_decided s.slots (R.direct m) ≡ true)
    → ((m : ℕ) → verdict_at s.verdicts m ≡ cond (is_decided (slot_at s.slots m)) (Some (world R m)) None)
    → (m : ℕ) → R.is_cyclic m || all_decided s.slots (R.direct m) ≡ true → right_over R s m ≡ world R m
right_is R count law s ready worlds m may =
    ap (R.right m)
    (stored_needs R s.verdicts (R.need m)
    (λ n h. worlds n ∙ ap (λ b. cond b (Some (world R n)) None) (need_of_ready count R.direct R.need R.is_cyclic law s.slots ready m may n h)))
    ∙ sym (world_is R count law m)

-- a cyclic module is one that has a line at which it is refused
pub cyclic_some : (rows : Rows) (m : ℕ) (line : Option ℕ) → IsRefusedAt rows m line → is_some line ≡ is_cyclic rows m
cyclic_some rows m None h = sym (not_false (is_cyclic rows m) (λ e. h ((cyclic_is rows m).0 e)))
cyclic_some rows m (Some line) h = sym ((cyclic_is rows m).1 h.0)

pub ready_cyclic : (w c a r : Bool) → w ≡ true → c ≡ true → r ≡ true → r ≡ w && (c || a)
ready_cyclic true true a r p q e = e
ready_cyclic true false a r p q e = absurd (true≢false (sym q))
ready_cyclic false c a r p q e = absurd (true≢false (sym p))

pub ready_direct : (w c a r : Bool) → w ≡ true → c ≡ false → r ≡ a → r ≡ w && (c || a)
ready_direct true false a r p q e = e
ready_direct true true a r p q e = absurd (true≢false q)
ready_direct false c a r p q e = absurd (true≢false (sym p))
