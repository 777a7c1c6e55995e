use Rattle.std.proofs.Common.{◌≡◌, true, refl, sym, ap, ◌∙◌}
use Rattle.import_graph.specs.Closure.{direct_of, is_cyclic}
use Rattle.registry_core.specs.Slots.{is_waiting, slot_at, all_decided}
use Rattle.registry_core.proofs.Decided.{cyclic_some, ready_cyclic, ready_direct}
use Rattle.registry_core.proofs.slots.is_ready.Goals as goal

pub returns-then-is_some-clause-answer : goal.returns-then-is_some-clause-answer
returns-then-is_some-clause-answer c =
    let graph = c.args.graph.now in
    let waits : is_waiting (slot_at c.args.slots.now c.args.module) ≡ true = sym (c.is_waiting.ensures ∙ ap is_waiting c.slot_at.ensures) ∙ c.if-not-is_waiting.false in
    let cyclic : c.is_some.result ≡ is_cyclic graph c.args.module = c.is_some.ensures ∙ cyclic_some graph c.args.module c.cyclic.result c.cyclic.ensures.exact in
    ready_cyclic (is_waiting (slot_at c.args.slots.now c.args.module)) (is_cyclic graph c.args.module) (all_decided c.args.slots.now (direct_of graph c.args.module)) true waits (sym cyclic ∙ c.if-is_some.true) refl

pub returns-clause-answer : goal.returns-clause-answer
returns-clause-answer c =
    let graph = c.args.graph.now in
    let waits : is_waiting (slot_at c.args.slots.now c.args.module) ≡ true = sym (c.is_waiting.ensures ∙ ap is_waiting c.slot_at.ensures) ∙ c.if-not-is_waiting.false in
    let cyclic : c.is_some.result ≡ is_cyclic graph c.args.module = c.is_some.ensures ∙ cyclic_some graph c.args.module c.cyclic.result c.cyclic.ensures.exact in
    ready_direct (is_waiting (slot_at c.args.slots.now c.args.module)) (is_cyclic graph c.args.module) (all_decided c.args.slots.now (direct_of graph c.args.module)) _ waits (sym cyclic ∙ c.if-is_some.false)
    (c.decided_front.ensures.whole ∙ ap (all_decided c.args.slots.now) c.direct-direct.ensures.value)
