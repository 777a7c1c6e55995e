-- Each event keeps what a `Registry` keeps.
use Rattle.std.proofs.Common.{◌≡◌, ◌≢◌, ℕ, ◌+◌, ◌-◌, ◌*◌, ◌<◌, ◌≤◌, ◌||◌, Bool, true, false, cond, List, [], ◌∷◌, ◌++◌, length, map, Option, Some, None, refl, sym, ap, ◌∙◌, subst, ⊎_elim, arith, true≢false, take, length-set, replicate}
use Rattle.std.specs.Prelude.{slice_index_or, slice_get, slice_set, option_map, IsSome, is_some}
use Rattle.std.specs.List.{list_any, list_all}
use Rattle.std.specs.declared.sync.Arc.{Arc}
use Rattle.std.specs.declared.alloc.Global.{Global}
use Rattle.std.specs.Arc.{arc_value}
use Rattle.std.proofs.lemmas.List.{get_or-set_same, get_or-set_other, map-set, length-map, length-replicate, get_or_default}
use Rattle.std.proofs.lemmas.List.Sums.{list_all-from_AllPass, AllPass-from_list_all, sum_by-set}
use Rattle.import_graph.specs.Graph.{has}
use Rattle.import_graph.specs.Closure.{count, direct_of, need_of, is_cyclic}
use Rattle.import_graph.specs.World.{Rules, world}
use Rattle.import_graph.proofs.NeedLaws.{has_needs}
use Rattle.import_graph.proofs.Bools.{and_left, and_right}
use Rattle.registry_core.specs.declared.loads.Loads.{Ghosts as LoadsGhosts}
use Rattle.registry_core.specs.declared.naming.Naming.{Ghosts as NamingGhosts}
use Rattle.registry_core.specs.declared.sources.Sources.{Sources}
use Rattle.registry_core.specs.declared.slot.Slot.{Slot}
use Rattle.registry_core.specs.declared.slot.Slot.TheVariants.{Waiting, Claimed, Withdrawn}
use Rattle.registry_core.specs.declared.slot.EventKind.TheVariants.{Claim, Withdraw}
use Rattle.registry_core.specs.Slots.{is_decided, is_waiting, is_claimed, is_withdrawn, slot_at, all_decided, is_ready, event}
use Rattle.registry_core.specs.Machine.{State, start, verdict_at, MayClaim}
use Rattle.registry_core.specs.Verdicts.{rules_of, named_graph, IsWorldData}
use Rattle.registry_core.specs.Right.{IsRight}
use Rattle.registry_core.specs.View.{RegistryView, state_of, moved, decided_by, open_after}
use Rattle.registry_core.specs.Named.{IsVerdictOf, IsWorldOf, IsRightView}
use Rattle.registry_core.specs.Kept.{IsKept, HasPlaces, HasFronts, events_in}
use Rattle.registry_core.specs.Stored.{shown, values_of}
use Rattle.registry_core.specs.Decision.{decision, decided_slot}
use Rattle.registry_core.proofs.Lists.{same_or_not, same_some, none_some, all_same, map_none, at_before, at_map, length-values, values_there}
use Rattle.registry_core.proofs.SlotLaws.{is_there, waiting_is, decided_not_waiting, all_decided_set}
use Rattle.registry_core.proofs.Decided.{need_of_ready}
use Rattle.registry_core.proofs.Keeps.{start_right, start_places, room_left, places_more, claim_right, decide_right, decided_is, decided_events, withdraw_right, one_if}
use Rattle.registry_core.proofs.Gathered.{world_data}

some_of : {X : Type 0} (o : Option X) → IsSome o → (x : X) × (o ≡ Some x)
some_of (Some x) h = (x, refl)
some_of None h = absurd cc

pub open_after_decision : (refused : Bool) (n : ℕ) → open_after (decision refused) n ≡ n - 1
open_after_decision true n = refl
open_after_decision false n = refl

module _ {L S V D N : Type 0} (T : LoadsGhosts L S V D) (M : NamingGhosts N L S) where
  pub open_kept : (all : Sources S) (count capacity : ℕ) → IsSome M.loads → M.sources ≡ Some all → count ≡ length all.graph → count * 2 ≤ capacity
      → IsKept T M all (record { slots = replicate count Waiting; verdicts = replicate count None; history = []; open_claims = 0 }) (replicate count 0) capacity
  open_kept all count capacity some is_sources is_count room =
      let l = some_of M.loads some in
      let R : Rules D = rules_of T.right T.is_refused l.0 all in
      let s : State D = start count in
      let right_one : IsRight R count (start count) [] 0 = start_right R count in
      let places : HasPlaces {D = D} count (start count) [] capacity = start_places {D = D} count capacity room in
      record {
        loads = l.0;
        is_loads = l.1;
        is_sources = is_sources;
        right_one = subst (λ (p : ℕ × List (Option D)). IsRight R p.0 (record { slots = replicate count Waiting; verdicts = p.1 }) [] 0) (λ i. (is_count i, sym (map_none T.verdict_data count) i)) right_one;
        places = subst (λ (p : ℕ × List (Option D)). HasPlaces p.0 (record { slots = replicate count Waiting; verdicts = p.1 }) [] capacity) (λ i. (is_count i, sym (map_none T.verdict_data count) i)) places;
        seen = record {
          all = length-replicate count 0 ∙ is_count;
          decided = λ m. ap (λ k. all_decided (replicate count Waiting) (take k (direct_of all.graph m))) (all_same count m 0);
        };
        each = λ k v h. absurd (none_some v (sym (all_same count k None) ∙ h));
      }

  module _ (all : Sources S) (v : RegistryView V) (fronts : List ℕ) (capacity : ℕ) (old : IsKept T M all v fronts capacity) where
    abbrev R : Rules D
    R = rules_of T.right T.is_refused old.loads all

    abbrev s : State D
    s = state_of T.verdict_data v

    pub slots_all : length v.slots ≡ count all.graph
    slots_all = old.places.slots

    pub verdicts_all : length v.verdicts ≡ count all.graph
    verdicts_all = sym (length-map v.verdicts (λ o. option_map T.verdict_data o)) ∙ old.places.verdicts

    graph_all : length v.slots ≡ length v.verdicts
    graph_all = slots_all ∙ sym verdicts_all

    -- what was seen to be decided stays so
    fronts_set : (m : ℕ) (slot : Slot) → m < length v.slots → (is_decided (slot_at v.slots m) ≡ true → is_decided slot ≡ true) → HasFronts all.graph (slice_set v.slots m slot) fronts
    fronts_set m slot lt keep = record {
      all = old.seen.all;
      decided = λ k. all_decided_set v.slots m slot lt keep (take (slice_index_or fronts k 0) (direct_of all.graph k)) (old.seen.decided k);
    }

    -- more was seen to be decided
    pub seen_kept : (more : List ℕ) → HasFronts all.graph v.slots more → IsKept T M all v more capacity
    seen_kept more seen = record {
      loads = old.loads;
      is_loads = old.is_loads;
      is_sources = old.is_sources;
      right_one = old.right_one;
      places = old.places;
      seen = seen;
      each = old.each;
    }

    -- room for the event of a claimed or waiting module
    pub room_waiting : (m : ℕ) → m < count all.graph → is_ready (direct_of all.graph) (is_cyclic all.graph) v.slots m ≡ true → length v.history < capacity
    room_waiting m there ready =
        let slot = waiting_is (slot_at v.slots m) (and_left (is_waiting (slot_at v.slots m)) (is_cyclic all.graph m || all_decided v.slots (direct_of all.graph m)) ready) in
        room_left (count all.graph) s v.history capacity m there (omega (arith, ap events_in slot)) old.places

    pub room_claimed : (m l : ℕ) → slot_at v.slots m ≡ Claimed l → length v.history < capacity
    room_claimed m l slot =
        room_left (count all.graph) s v.history capacity m (omega (arith, is_there v.slots m (ap is_waiting slot), slots_all)) (omega (arith, ap events_in slot)) old.places

    pub claim_kept : (m l : ℕ) → m < count all.graph → is_ready (direct_of all.graph) (is_cyclic all.graph) v.slots m ≡ true → list_any is_withdrawn v.slots ≡ false
        → IsKept T M all (moved v Claim m l (Claimed l)) fronts capacity
    claim_kept m l there ready running =
        let may : MayClaim R s m = record { there = omega (arith, there, slots_all); ready = ready; running = running } in
        let slot = waiting_is (slot_at v.slots m) (and_left (is_waiting (slot_at v.slots m)) (is_cyclic all.graph m || all_decided v.slots (direct_of all.graph m)) ready) in
        record {
          loads = old.loads;
          is_loads = old.is_loads;
          is_sources = old.is_sources;
          right_one = claim_right R (count all.graph) s v.history v.open_claims (v.open_claims + 1) m l may refl old.right_one;
          places = places_more (count all.graph) s v.history capacity m l Claim (Claimed l) s.verdicts there (sym (ap (λ x. events_in x + 1) slot)) refl old.places;
          seen = fronts_set m (Claimed l) (omega (arith, there, slots_all)) (λ d. absurd (true≢false (sym d ∙ ap is_decided slot)));
          each = old.each;
        }

    -- the claim of a claimed module is open
    one_open : (m l : ℕ) → slot_at v.slots m ≡ Claimed l → v.open_claims - 1 + 1 ≡ v.open_claims
    one_open m l slot =
        let lt : m < length v.slots = is_there v.slots m (ap is_waiting slot) in
        omega (arith, sum_by-set (λ x. one_if (is_claimed x)) v.slots m Waiting Waiting lt, ap (λ x. one_if (is_claimed x)) slot, old.right_one.book)

    pub withdraw_kept : (m l : ℕ) → slot_at v.slots m ≡ Claimed l → IsKept T M all (moved v Withdraw m l Withdrawn) fronts capacity
    withdraw_kept m l slot = record {
      loads = old.loads;
      is_loads = old.is_loads;
      is_sources = old.is_sources;
      right_one = withdraw_right R (count all.graph) s v.history v.open_claims (v.open_claims - 1) m l slot (one_open m l slot) old.right_one;
      places = places_more (count all.graph) s v.history capacity m l Withdraw Withdrawn s.verdicts (omega (arith, is_there v.slots m (ap is_waiting slot), slots_all)) (sym (ap (λ x. events_in x + 1) slot)) refl old.places;
      seen = fronts_set m Withdrawn (is_there v.slots m (ap is_waiting slot)) (λ d. absurd (true≢false (sym d ∙ ap is_decided slot)));
      each = old.each;
    }

    pub decide_kept : ((l : L) (from : Sources S) (m : ℕ) (list : List (ℕ × D)) (x : V) → T.is_right l from m list x → T.verdict_data x ≡ T.right l from m list)
        → (m l : ℕ) (refused : Bool) (x : V) → slot_at v.slots m ≡ Claimed l → IsVerdictOf T M m x → T.is_refused (T.verdict_data x) ≡ refused
        → IsKept T M all (decided_by v (decision refused) m l (decided_slot refused) x) fronts capacity
    decide_kept law m l refused x slot w fine =
        let d : D = T.verdict_data x in
        let f : Option V → Option D = λ o. option_map T.verdict_data o in
        let lt : m < length v.slots = is_there v.slots m (ap is_waiting slot) in
        let there : m < count all.graph = omega (arith, lt, slots_all) in
        let vlt : m < length v.verdicts = omega (arith, lt, graph_all) in
        let is : d ≡ world R m = subst (λ (p : Option L × Option (Sources S)). IsWorldData T.right T.is_refused p.0 p.1 m d) (λ i. (old.is_loads i, old.is_sources i))
        (world_data T.verdict_data T.right T.is_right T.is_refused law M.loads M.sources m x w) in
        let same : length s.verdicts ≡ length s.slots = old.places.verdicts ∙ sym old.places.slots in
        let one = decide_right R (count all.graph) s v.history v.open_claims (v.open_claims - 1) m l refused d (has_needs all.graph) same slot is fine (one_open m l slot) old.right_one in
        let places = places_more (count all.graph) s v.history capacity m l (decision refused) (decided_slot refused) (slice_set s.verdicts m (Some d)) there
        (decided_events refused ∙ sym (ap (λ y. events_in y + 1) slot)) (length-set s.verdicts m (Some d)) old.places in
        let set : slice_set s.verdicts m (Some d) ≡ map f (slice_set v.verdicts m (Some x)) = sym (map-set f v.verdicts m (Some x)) in
        record {
          loads = old.loads;
          is_loads = old.is_loads;
          is_sources = old.is_sources;
          right_one = subst (λ (p : List (Option D) × ℕ). IsRight R (count all.graph) (record { slots = slice_set v.slots m (decided_slot refused); verdicts = p.0 }) (v.history ++ event (decision refused) m l ∷ []) p.1) (λ i. (set i, sym (open_after_decision refused v.open_claims) i)) one;
          places = subst (λ (ds : List (Option D)). HasPlaces (count all.graph) (record { slots = slice_set v.slots m (decided_slot refused); verdicts = ds }) (v.history ++ event (decision refused) m l ∷ []) capacity) set places;
          seen = fronts_set m (decided_slot refused) lt (λ _. decided_is refused);
          each = λ k y h. ⊎_elim
              (λ (e : k ≡ m). subst (λ (p : ℕ × V). IsVerdictOf T M p.0 p.1) (λ i. (sym e i, same_some x y (sym (ap (λ j. verdict_at (slice_set v.verdicts m (Some x)) j) e ∙ get_or-set_same v.verdicts m (Some x) None vlt) ∙ h) i)) w)
              (λ (ne : k ≢ m). old.each k y (sym (get_or-set_other v.verdicts m k (Some x) None ne) ∙ h))
              (same_or_not k m);
        }

    -- the verdicts of the need of a module that may be claimed are there
    pub held_kept : (raw : List (Option (Arc V Global))) → v.verdicts ≡ shown raw → (m : ℕ) → is_ready (direct_of all.graph) (is_cyclic all.graph) v.slots m ≡ true
        → (n : ℕ) → has n (need_of all.graph m) ≡ true → (n < length raw) × ((a : Arc V Global) × (verdict_at raw n ≡ Some a))
    held_kept raw is m ready n h =
        let may = and_right (is_waiting (slot_at v.slots m)) (is_cyclic all.graph m || all_decided v.slots (direct_of all.graph m)) ready in
        let dec : is_decided (slot_at v.slots n) ≡ true = need_of_ready (count all.graph) (direct_of all.graph) (need_of all.graph) (is_cyclic all.graph) (has_needs all.graph) v.slots old.right_one.ready m may n h in
        let lt : n < length raw = omega (arith, is_there v.slots n (decided_not_waiting (slot_at v.slots n) dec), graph_all, ap length is, length-map raw (λ o. option_map (λ (a : Arc V Global). arc_value a) o)) in
        let kept : verdict_at s.verdicts n ≡ Some (world R n) = old.right_one.worlds n ∙ ap (λ b. cond b (Some (world R n)) None) dec in
        let x = at_before T.verdict_data v.verdicts n (world R n) kept in
        let a = at_before (λ (a : Arc V Global). arc_value a) raw n x.0 (sym (ap (λ os. verdict_at os n) is) ∙ x.1) in
        (lt, (a.0, a.1))

    -- what is stored is right
    pub stored_right : (raw : List (Option (Arc V Global))) → v.verdicts ≡ shown raw → (m : ℕ) (a : Arc V Global) → verdict_at raw m ≡ Some a → IsVerdictOf T M m (arc_value a)
    stored_right raw is m a e = old.each m (arc_value a) (ap (λ os. verdict_at os m) is ∙ at_map (λ (b : Arc V Global). arc_value b) raw m ∙ ap (λ o. option_map (λ (b : Arc V Global). arc_value b) o) e)

    -- where every slot is decided every verdict is there
    pub every_kept : (raw : List (Option (Arc V Global))) → v.verdicts ≡ shown raw → list_all is_decided v.slots ≡ true → list_all (λ o. is_some o) raw ≡ true
    every_kept raw is every =
        list_all-from_AllPass (λ o. is_some o) raw
        (λ k d lt.
        let there : k < length v.slots = omega (arith, lt, graph_all, ap length is, length-map raw (λ o. option_map (λ (a : Arc V Global). arc_value a) o)) in
        let dec = AllPass-from_list_all is_decided v.slots every k Waiting there in
        let kept : verdict_at s.verdicts k ≡ Some (world R k) = old.right_one.worlds k ∙ ap (λ b. cond b (Some (world R k)) None) dec in
        let x = at_before T.verdict_data v.verdicts k (world R k) kept in
        let a = at_before (λ (a : Arc V Global). arc_value a) raw k x.0 (sym (ap (λ os. verdict_at os k) is) ∙ x.1) in
        ap (λ (o : Option (Arc V Global)). is_some o) (get_or_default raw k d None lt ∙ a.1))

    pub world_kept : ((l : L) (from : Sources S) (m : ℕ) (list : List (ℕ × D)) (x : V) → T.is_right l from m list x → T.verdict_data x ≡ T.right l from m list)
        → (raw : List (Option (Arc V Global))) → v.verdicts ≡ shown raw → list_all (λ o. is_some o) raw ≡ true → IsWorldOf T M (values_of raw)
    world_kept law raw is every =
        let there : (m : ℕ) (x : V) → slice_get (values_of raw) m ≡ Some x → IsVerdictOf T M m x = λ m x e. old.each m x (ap (λ os. verdict_at os m) is ∙ values_there raw every m x e) in
        record {
          all = length-values raw every ∙ sym (length-map raw (λ o. option_map (λ (a : Arc V Global). arc_value a) o)) ∙ sym (ap length is) ∙ verdicts_all ∙ sym (ap (λ o. count (named_graph o)) old.is_sources);
          right_ones = there;
          worlds = λ m x e. world_data T.verdict_data T.right T.is_right T.is_refused law M.loads M.sources m x (there m x e);
        }

    pub view_kept : IsRightView T M v
    view_kept = record {
      loads = old.loads;
      sources = all;
      is_loads = old.is_loads;
      is_sources = old.is_sources;
      right_one = old.right_one;
      right_verdicts = old.each;
    }
