use Rattle.std.proofs.Common.{◌<◌, None, Some, length, sym, ap, ◌∙◌, arith}
use Rattle.std.specs.Prelude.{slice_get}
use Rattle.std.proofs.lemmas.List.{get_or_default}
use Rattle.registry_core.proofs.Lists.{length-values, none_missing, value_at}
use Rattle.registry_core.proofs.world.World.verdict.Goals as goal

pub index-requires : goal.index-requires
index-requires g c = omega (arith, c.requires, ap length c.self.view_is, length-values c.self.inside.verdicts.items c.self.invariant, c.self.inside.verdicts.ok.0)

pub unreachable-requires : goal.unreachable-requires
unreachable-requires g c =
    let raw = c.self.inside.verdicts.items in
    let lt : c.args.module < length raw = omega (arith, c.requires, ap length c.self.view_is, length-values raw c.self.invariant) in
    none_missing raw c.self.invariant c.args.module lt (sym (get_or_default raw c.args.module c.index.result.now None lt) ∙ sym c.index.ensures ∙ c.in-None.is)

pub returns : goal.returns
returns g c =
    let raw = c.self.inside.verdicts.items in
    let lt : c.args.module < length raw = omega (arith, c.requires, ap length c.self.view_is, length-values raw c.self.invariant) in
    ap (λ vs. slice_get vs c.args.module) (sym c.self.view_is) ∙ value_at raw c.self.invariant c.args.module c.in-Some.verdict (sym (get_or_default raw c.args.module c.index.result.now None lt) ∙ sym c.index.ensures ∙ c.in-Some.is) ∙ ap Some (sym c.deref.ensures)
