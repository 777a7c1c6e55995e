use Rattle.std.proofs.Common.{◌≡◌, ℕ, ◌+◌, Some, None, [], ◌∷◌, ◌++◌, length, map, sym, ap, ◌∙◌, ⊎_elim}
use Rattle.std.specs.Prelude.{slice_get, slice_index_or}
use Rattle.std.specs.Arc.{arc_value}
use Rattle.std.proofs.lemmas.List.{get_or_default, take_more, map-append, length_push}
use Rattle.registry_core.specs.declared.imports.Import.{Import}
use Rattle.registry_core.specs.Machine.{verdict_at}
use Rattle.registry_core.proofs.Lists.{has_at, get_push, none_some}
use Rattle.registry_core.proofs.slots.gather.Goals as goal

pub bounds-verdicts-module : goal.bounds-verdicts-module
bounds-verdicts-module g c = (c.requires.held _ (has_at c.args.need.now c.loop-module.module-index c.loop-module-test.true)).0

pub unreachable-requires : goal.unreachable-requires
unreachable-requires g c =
    let n : ℕ = slice_index_or c.args.need.now c.loop-module.module-index 0 in
    let held = c.requires.held n (has_at c.args.need.now c.loop-module.module-index c.loop-module-test.true) in
    none_some held.1.0 (sym c.in_default.is ∙ c.index-verdicts-module.is ∙ get_or_default c.args.verdicts.now n c.index-verdicts-module.result None held.0 ∙ held.1.1)

pub loop-module-preserved : goal.loop-module-preserved
loop-module-preserved g c =
    let n : ℕ = slice_index_or c.args.need.now c.loop-module.module-index 0 in
    let held = c.requires.held n (has_at c.args.need.now c.loop-module.module-index c.loop-module-test.true) in
    let there : verdict_at c.args.verdicts.now n ≡ Some c.in-Some.verdict = sym (get_or_default c.args.verdicts.now n c.index-verdicts-module.result None held.0) ∙ sym c.index-verdicts-module.is ∙ c.in-Some.is in
    let items = c.loop-module.into.rows in
    let x : Import g.row.V.Denot = record { «module» = n; verdict = c.in_ok-verdict.verdict } in
    record {
      modules = ap (map (λ (r : Import g.row.V.Denot). r.module)) c.append.ensures.rows ∙ map-append _ items (x ∷ []) ∙ ap (λ l. l ++ n ∷ []) c.loop-module.invariant.modules ∙ sym (take_more c.args.need.now c.loop-module.module-index 0 c.loop-module-test.true);
      verdicts = λ k r h. ⊎_elim
          (λ (old : slice_get items k ≡ Some r). c.loop-module.invariant.verdicts k r old)
          (λ (new : x ≡ r). (c.in-Some.verdict, ap (λ (y : Import g.row.V.Denot). verdict_at c.args.verdicts.now y.module) (sym new) ∙ there, sym c.in_ok-verdict.ensures ∙ ap (λ (y : Import g.row.V.Denot). arc_value y.verdict) new))
          (get_push items x k r (sym (ap (λ l. slice_get l k) c.append.ensures.rows) ∙ h));
      count = ap length c.append.ensures.rows ∙ length_push items x ∙ ap (λ n. n + 1) c.loop-module.invariant.count;
      room = c.append.ensures.room ∙ c.loop-module.invariant.room;
    }
