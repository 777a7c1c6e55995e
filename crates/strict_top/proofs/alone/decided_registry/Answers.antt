use Rattle.std.proofs.Common.{refl, ap, ◌∙◌}
use Rattle.std.specs.List.{list_any}
use Rattle.registry_core.specs.Named.{module_count}
use Rattle.registry_core.specs.Slots.{is_claimed, is_withdrawn}
use Rattle.strict_top.proofs.OneLoader.{none_of_waiting}
use Rattle.strict_top.proofs.alone.decided_registry.Goals as goal

pub decide_each-requires-clause-none_claimed : goal.decide_each-requires-clause-none_claimed
decide_each-requires-clause-none_claimed g c κs within = ap (list_any is_claimed) c.in_ok-registry.ensures.slots ∙ none_of_waiting is_claimed (module_count g.N.Naming) refl

pub decide_each-requires-clause-none_withdrawn : goal.decide_each-requires-clause-none_withdrawn
decide_each-requires-clause-none_withdrawn g c κs within = ap (list_any is_withdrawn) c.in_ok-registry.ensures.slots ∙ none_of_waiting is_withdrawn (module_count g.N.Naming) refl
