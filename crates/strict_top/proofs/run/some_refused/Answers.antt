use denote.Param.Send.{arg_send, arg_sync, param_send, param_sync}
use Rattle.std.proofs.Common.{◌∙◌, ◌||◌, get_or, sym, ap}
use Rattle.std.proofs.lemmas.List.Folds.{list_any_at, list_any_more}
use Rattle.std.proofs.lemmas.Option.{get_or_from_slice_get, slice_get_within}
use Rattle.module_load.proofs.Crossing.{source_send, source_sync}
use Rattle.module_load.specs.Right.{is_refused}
use Rattle.strict_top.proofs.run.some_refused.Goals as goal

pub verdict-requires-send-L-Source : goal.verdict-requires-send-L-Source
verdict-requires-send-L-Source c κs = search (source_send, param_send, arg_send)

pub verdict-requires-sync-L-Source : goal.verdict-requires-sync-L-Source
verdict-requires-sync-L-Source c κs = search (source_sync, param_sync, arg_sync)

pub returns-then-is_refused : goal.returns-then-is_refused
returns-then-is_refused c =
    let world = c.args.world.now in
    let here = c.verdict.result.now in
    sym (list_any_at is_refused world c.loop-module.module here (slice_get_within world _ here c.verdict.ensures)
    (ap is_refused (get_or_from_slice_get world _ here here c.verdict.ensures) ∙ sym c.is_refused.ensures ∙ c.if-is_refused.true))

pub loop-module-preserved : goal.loop-module-preserved
loop-module-preserved c =
    let world = c.args.world.now in
    let here = c.verdict.result.now in
    record {
      none = list_any_more is_refused world c.loop-module.module here (slice_get_within world _ here c.verdict.ensures)
          ∙ ap (λ b. b || is_refused (get_or world c.loop-module.module here)) c.loop-module.invariant.none
          ∙ ap is_refused (get_or_from_slice_get world _ here here c.verdict.ensures) ∙ sym c.is_refused.ensures ∙ c.if-is_refused.false;
    }
