use Rattle.std.proofs.Common.{◌≡◌, ℕ, ◌<◌, true, false, List, length, map, refl, sym, ap, ◌∙◌, subst, arith, Option}
use Rattle.std.specs.Prelude.{slice_set}
use Rattle.std.specs.List.{list_any, list_all}
use Rattle.std.specs.Vec.{vec_capacity}
use Rattle.std.proofs.lemmas.List.{get_or-set_same}
use Rattle.import_graph.specs.Graph.{Rows, has}
use Rattle.import_graph.specs.Closure.{count, direct_of, need_of, is_cyclic}
use Rattle.import_graph.proofs.NeedLaws.{has_needs}
use Rattle.registry_core.specs.declared.slot.Slot.{Slot}
use Rattle.registry_core.specs.declared.slot.Slot.TheVariants.{Claimed, Waiting}
use Rattle.registry_core.specs.declared.slot.EventKind.TheVariants.{Claim}
use Rattle.registry_core.specs.declared.slot.Event.{Event}
use Rattle.registry_core.specs.declared.imports.Import.{Import}
use Rattle.registry_core.specs.declared.sources.Sources.{Sources}
use Rattle.registry_core.specs.Slots.{is_ready, is_decided, is_claimed, is_withdrawn}
use Rattle.registry_core.specs.Machine.{verdict_at}
use Rattle.registry_core.specs.Stored.{shown}
use Rattle.registry_core.specs.Verdicts.{named_graph}
use Rattle.registry_core.specs.View.{RegistryView, moved}
use Rattle.registry_core.specs.Named.{IsVerdictOf, IsNeedOf}
use Rattle.registry_core.specs.Answer.{IsHandedOut}
use Rattle.registry_core.proofs.Whole.{seen_kept, claim_kept, held_kept, room_waiting, stored_right}
use Rattle.registry_core.proofs.Lists.{whole_written}
use Rattle.registry_core.specs.Kept.{HasFronts}
use Rattle.registry_core.proofs.OnceEach.{rows_once, rows_none}
use Rattle.registry_core.proofs.Progress.{some_claimed}
use Rattle.registry_core.proofs.registry.Registry.claim.Goals as goal

pub gather-requires-clause-held : goal.gather-requires-clause-held
gather-requires-clause-held g c κs within =
    let i = c.self.inside in
    let m : ℕ = c.in-Some.module in
    let graph : Rows = i.all.value.graph in
    let slots : List Slot = i.slots.items in
    let here : c.deref.result.now.graph ≡ graph = ap (λ s. s.graph) c.deref.ensures in
    let found : (m < count graph) × (is_ready (direct_of graph) (is_cyclic graph) slots m ≡ true) = subst (λ (p : Rows × List Slot). (m < count p.0) × (is_ready (direct_of p.0) (is_cyclic p.0) p.1 m ≡ true)) (λ j. (here j, c.as_slice-3.ensures.value j)) c.in-Some.ensures.answer in
    let need : c.need.result.now ≡ need_of graph m = c.need.ensures.value ∙ ap (λ s. need_of s.graph m) c.deref-2.ensures in
    λ n h. rw c.as_slice-4.ensures.value
    (held_kept g.L.Loads g.N.Naming i.all.value _ i.fronts.items (vec_capacity i.history) c.self.invariant i.verdicts.items refl m found.1 n (sym (ap (has n) need) ∙ h))

pub gather-requires-clause-room : goal.gather-requires-clause-room
gather-requires-clause-room g c κs within =
    let i = c.self.inside in
    let m : ℕ = c.in-Some.module in
    let graph : Rows = i.all.value.graph in
    let slots : List Slot = i.slots.items in
    let here : c.deref.result.now.graph ≡ graph = ap (λ s. s.graph) c.deref.ensures in
    let found : (m < count graph) × (is_ready (direct_of graph) (is_cyclic graph) slots m ≡ true) = subst (λ (p : Rows × List Slot). (m < count p.0) × (is_ready (direct_of p.0) (is_cyclic p.0) p.1 m ≡ true)) (λ j. (here j, c.as_slice-3.ensures.value j)) c.in-Some.ensures.answer in
    let need : c.need.result.now ≡ need_of graph m = c.need.ensures.value ∙ ap (λ s. need_of s.graph m) c.deref-2.ensures in
    omega (arith, ap length need, (has_needs graph).short m, ap (λ o. count (named_graph o)) c.self.invariant.is_sources, c.requires.room, c.clear.ensures.room)

pub push_reserved-requires : goal.push_reserved-requires
push_reserved-requires g c =
    let i = c.self.inside in
    let m : ℕ = c.in-Some.module in
    let graph : Rows = i.all.value.graph in
    let slots : List Slot = i.slots.items in
    let here : c.deref.result.now.graph ≡ graph = ap (λ s. s.graph) c.deref.ensures in
    let found : (m < count graph) × (is_ready (direct_of graph) (is_cyclic graph) slots m ≡ true) = subst (λ (p : Rows × List Slot). (m < count p.0) × (is_ready (direct_of p.0) (is_cyclic p.0) p.1 m ≡ true)) (λ j. (here j, c.as_slice-3.ensures.value j)) c.in-Some.ensures.answer in
    omega (arith, i.history.ok.0, room_waiting g.L.Loads g.N.Naming i.all.value _ i.fronts.items (vec_capacity i.history) c.self.invariant m found.0 found.1)

pub invariant_of-self : goal.invariant_of-self
invariant_of-self g c =
    let i = c.self.inside in
    let graph : Rows = i.all.value.graph in
    let slots : List Slot = i.slots.items in
    let here : c.deref.result.now.graph ≡ graph = ap (λ s. s.graph) c.deref.ensures in
    let seen : HasFronts graph slots c.first_ready.new.fronts = subst (λ (p : Rows × List Slot). HasFronts p.0 p.1 c.first_ready.new.fronts) (λ j. (here j, c.as_slice-3.ensures.value j)) c.first_ready.ensures.fronts in
    let written = whole_written c.first_ready.new.fronts i.fronts.items i.fronts.len (seen.all ∙ sym c.self.invariant.seen.all) i.fronts.ok.0 in
    rw written (seen_kept g.L.Loads g.N.Naming i.all.value _ i.fronts.items (vec_capacity i.history) c.self.invariant c.first_ready.new.fronts seen)

pub invariant_of-self-in-Ok : goal.invariant_of-self-in-Ok
invariant_of-self-in-Ok g c =
    let i = c.self.inside in
    let m : ℕ = c.in-Some.module in
    let graph : Rows = i.all.value.graph in
    let slots : List Slot = i.slots.items in
    let here : c.deref.result.now.graph ≡ graph = ap (λ s. s.graph) c.deref.ensures in
    let found : (m < count graph) × (is_ready (direct_of graph) (is_cyclic graph) slots m ≡ true) = subst (λ (p : Rows × List Slot). (m < count p.0) × (is_ready (direct_of p.0) (is_cyclic p.0) p.1 m ≡ true)) (λ j. (here j, c.as_slice-3.ensures.value j)) c.in-Some.ensures.answer in
    let none : list_any is_withdrawn slots ≡ false = ap (list_any is_withdrawn) (sym c.as_slice.ensures.value) ∙ sym c.some_withdrawn.ensures ∙ c.if-some_withdrawn.false in
    let seen : HasFronts graph slots c.first_ready.new.fronts = subst (λ (p : Rows × List Slot). HasFronts p.0 p.1 c.first_ready.new.fronts) (λ j. (here j, c.as_slice-3.ensures.value j)) c.first_ready.ensures.fronts in
    let written = whole_written c.first_ready.new.fronts i.fronts.items i.fronts.len (seen.all ∙ sym c.self.invariant.seen.all) i.fronts.ok.0 in
    rw (c.push_reserved.ensures.items, c.push_reserved.ensures.capacity, c.add.ensures.total, written)
    (claim_kept g.L.Loads g.N.Naming i.all.value _ c.first_ready.new.fronts (vec_capacity i.history) (seen_kept g.L.Loads g.N.Naming i.all.value _ i.fronts.items (vec_capacity i.history) c.self.invariant c.first_ready.new.fronts seen) m c.args.loader found.0 found.1 none)

pub returns-in-Ok-clause-answer : goal.returns-in-Ok-clause-answer
returns-in-Ok-clause-answer g c =
    let i = c.self.inside in
    let m : ℕ = c.in-Some.module in
    let graph : Rows = i.all.value.graph in
    let slots : List Slot = i.slots.items in
    let here : c.deref.result.now.graph ≡ graph = ap (λ s. s.graph) c.deref.ensures in
    let found : (m < count graph) × (is_ready (direct_of graph) (is_cyclic graph) slots m ≡ true) = subst (λ (p : Rows × List Slot). (m < count p.0) × (is_ready (direct_of p.0) (is_cyclic p.0) p.1 m ≡ true)) (λ j. (here j, c.as_slice-3.ensures.value j)) c.in-Some.ensures.answer in
    let need : c.need.result.now ≡ need_of graph m = c.need.ensures.value ∙ ap (λ s. need_of s.graph m) c.deref-2.ensures in
    let none : list_any is_withdrawn slots ≡ false = ap (list_any is_withdrawn) (sym c.as_slice.ensures.value) ∙ sym c.some_withdrawn.ensures ∙ c.if-some_withdrawn.false in
    let inv = c.self.invariant in
    let seen = c.self.view_is in
    let l : ℕ = c.args.loader in
    let new : List Event → ℕ → RegistryView g.row.L-Verdict.Denot = λ h k. record { slots = slice_set slots m (Claimed l); verdicts = shown i.verdicts.items; history = h; open_claims = k } in
    let is_need : map (λ (r : Import g.row.L-Verdict.Denot). r.module) c.gather.new.into.rows ≡ need_of (named_graph g.N.Naming.sources) m = c.in-Ok.ensures.modules ∙ need ∙ ap (λ o. need_of (named_graph o) m) (sym inv.is_sources) in
    let gathered : IsNeedOf g.L.Loads g.N.Naming m c.gather.new.into.rows = record {
      once = λ n h. rows_once (named_graph g.N.Naming.sources) m n c.gather.new.into.rows is_need h;
      no_other = λ n h. rows_none (named_graph g.N.Naming.sources) m n c.gather.new.into.rows is_need h;
      verdicts = λ k r h.
          let w = c.in-Ok.ensures.verdicts k r h in
          subst (λ v. IsVerdictOf g.L.Loads g.N.Naming r.module v) w.2 (stored_right g.L.Loads g.N.Naming i.all.value _ i.fronts.items (vec_capacity i.history) c.self.invariant i.verdicts.items refl r.module w.0 (ap (λ vs. verdict_at vs r.module) (sym c.as_slice-4.ensures.value) ∙ w.1));
    } in
    let handed : IsHandedOut g.L.Loads g.N.Naming c.args.self.now (new c.push_reserved.new.self.items c.add.new.self.total) c.gather.new.into.rows l m l = record {
      by = refl;
      there = subst (λ o. m < count (named_graph o)) (sym inv.is_sources) found.0;
      ready = subst (λ (p : Option (Sources g.row.L-Source.Denot) × List Slot). is_ready (direct_of (named_graph p.0)) (is_cyclic (named_graph p.0)) p.1 m ≡ true) (λ j. (sym inv.is_sources j, ap (λ v. v.slots) seen j)) found.1;
      running = subst (λ v. list_any is_withdrawn v.slots ≡ false) seen none;
      event = (λ j. new (c.push_reserved.ensures.items j) (c.add.ensures.total j)) ∙ ap (λ v. moved v Claim m l (Claimed l)) seen;
      slot = get_or-set_same slots m (Claimed l) Waiting (omega (arith, found.0, inv.places.slots));
      imports = gathered;
      ascending = is_need;
    } in
    subst (λ (p : ℕ × ℕ). IsHandedOut g.L.Loads g.N.Naming c.args.self.now (new c.push_reserved.new.self.items c.add.new.self.total) c.gather.new.into.rows l p.0 p.1) (λ j. (sym c.make-in-Ok.ensures.number j, sym c.make-in-Ok.ensures.loader j)) handed

pub returns-in_default-clause-answer : goal.returns-in_default-clause-answer
returns-in_default-clause-answer g c =
    let i = c.self.inside in
    let inv = c.self.invariant in
    let graph : Rows = i.all.value.graph in
    let slots : List Slot = i.slots.items in
    let seen = c.self.view_is in
    let here : c.deref.result.now.graph ≡ graph = ap (λ s. s.graph) c.deref.ensures in
    let none : list_any is_withdrawn slots ≡ false = ap (list_any is_withdrawn) (sym c.as_slice.ensures.value) ∙ sym c.some_withdrawn.ensures ∙ c.if-some_withdrawn.false in
    let not_all : list_all is_decided slots ≡ false = ap (list_all is_decided) (sym c.as_slice-2.ensures.value) ∙ sym c.every_decided.ensures ∙ c.if-every_decided.false in
    let unready : (m : ℕ) → m < count graph → is_ready (direct_of graph) (is_cyclic graph) slots m ≡ false = subst (λ (p : Rows × List Slot). (m : ℕ) → m < count p.0 → is_ready (direct_of p.0) (is_cyclic p.0) p.1 m ≡ false) (λ j. (here j, c.as_slice-3.ensures.value j)) c.in_default.ensures.answer in
    let one : list_any is_claimed slots ≡ true = some_claimed (count graph) (direct_of graph) (need_of graph) (is_cyclic graph) (has_needs graph) slots inv.places.slots not_all none unready in
    record {
      running = subst (λ v. list_any is_withdrawn v.slots ≡ false) seen none;
      claimed = subst (λ v. list_any is_claimed v.slots ≡ true) seen one;
      none_ready = subst (λ (p : Option (Sources g.row.L-Source.Denot) × List Slot). (m : ℕ) → m < count (named_graph p.0) → is_ready (direct_of (named_graph p.0)) (is_cyclic (named_graph p.0)) p.1 m ≡ false) (λ j. (sym inv.is_sources j, ap (λ v. v.slots) seen j)) unready;
    }
