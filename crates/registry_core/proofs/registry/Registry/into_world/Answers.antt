use Rattle.std.proofs.Common.{◌≡◌, true, refl, sym, ap, ◌∙◌}
use Rattle.std.specs.List.{list_all}
use Rattle.std.specs.Vec.{vec_capacity}
use Rattle.registry_core.specs.Slots.{is_decided}
use Rattle.registry_core.proofs.Whole.{every_kept, world_kept}
use Rattle.registry_core.proofs.registry.Registry.into_world.Goals as goal

pub invariant_of-result : goal.invariant_of-result
invariant_of-result g c =
    let i = c.self.inside in
    let every : list_all is_decided i.slots.items ≡ true = ap (list_all is_decided) (sym c.as_slice.ensures.value) ∙ sym c.every_decided.ensures ∙ c.if-not-every_decided.false in
    every_kept g.L.Loads g.N.Naming i.all.value _ i.fronts.items (vec_capacity i.history) c.self.invariant i.verdicts.items refl every

pub returns-clause-world : goal.returns-clause-world
returns-clause-world g c =
    let i = c.self.inside in
    let every : list_all is_decided i.slots.items ≡ true = ap (list_all is_decided) (sym c.as_slice.ensures.value) ∙ sym c.every_decided.ensures ∙ c.if-not-every_decided.false in
    world_kept g.L.Loads g.N.Naming i.all.value _ i.fronts.items (vec_capacity i.history) c.self.invariant g.met.L.Loads.right_data i.verdicts.items refl
    (every_kept g.L.Loads g.N.Naming i.all.value _ i.fronts.items (vec_capacity i.history) c.self.invariant i.verdicts.items refl every)
