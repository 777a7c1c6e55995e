use Rattle.std.proofs.Common.{◌≡◌, ℕ, ◌*◌, ◌≤◌, None, length, replicate, ap, sym, ◌∙◌}
use Rattle.std.specs.Vec.{vec_capacity}
use Rattle.import_graph.specs.Closure.{count}
use Rattle.registry_core.specs.declared.slot.Slot.TheVariants.{Waiting}
use Rattle.registry_core.specs.Stored.{shown}
use Rattle.registry_core.specs.Verdicts.{named_graph}
use Rattle.registry_core.proofs.Lists.{shown_none}
use Rattle.registry_core.proofs.Whole.{open_kept}
use Rattle.registry_core.proofs.registry.Registry.open.Goals as goal

pub invariant_of-registry : goal.invariant_of-registry
invariant_of-registry g c =
    let n : ℕ = c.count-count.result in
    let is_count : n ≡ length c.args.all.value.graph = c.count-count.ensures ∙ ap (λ s. count s.graph) c.deref.ensures in
    let room : n * 2 ≤ vec_capacity c.in_ok-history.history = c.in_ok-history.ensures.capacity in
    let slots : c.in_ok-slots.slots.items ≡ replicate n Waiting = c.in_ok-slots.ensures.items_if_clones_equal (λ y h. h) in
    let fronts : c.in_ok-fronts.fronts.items ≡ replicate n 0 = c.in_ok-fronts.ensures.items_if_clones_equal (λ y h. h) in
    rw (slots, fronts, c.in_ok-verdicts.ensures, c.in_ok-history.ensures.items, c.open-book.ensures.total, shown_none n)
    (open_kept g.L.Loads g.N.Naming c.args.all.value n (vec_capacity c.in_ok-history.history) c.requires.loads c.requires.sources is_count room)

pub returns-clause-verdicts : goal.returns-clause-verdicts
returns-clause-verdicts g c =
    let n : ℕ = c.count-count.result in
    let is_count : n ≡ length c.args.all.value.graph = c.count-count.ensures ∙ ap (λ s. count s.graph) c.deref.ensures in
    ap shown c.in_ok-verdicts.ensures ∙ shown_none n ∙ ap (λ k. replicate k None) (is_count ∙ sym (ap (λ o. count (named_graph o)) c.requires.sources))

pub returns-clause-slots : goal.returns-clause-slots
returns-clause-slots g c =
    let n : ℕ = c.count-count.result in
    let is_count : n ≡ length c.args.all.value.graph = c.count-count.ensures ∙ ap (λ s. count s.graph) c.deref.ensures in
    let slots : c.in_ok-slots.slots.items ≡ replicate n Waiting = c.in_ok-slots.ensures.items_if_clones_equal (λ y h. h) in
    slots ∙ ap (λ k. replicate k Waiting) (is_count ∙ sym (ap (λ o. count (named_graph o)) c.requires.sources))
