use denote.Param.Send.{arg_send, arg_sync, param_send, param_sync}
use Rattle.std.proofs.Common.{◌≤◌, ◌+◌, ◌++◌, length, ap, refl, ◌∙◌, length-append, arith}
use Rattle.std.proofs.lemmas.Result.{err_from_is_err_and}
use Rattle.module_load.proofs.Crossing.{source_send, source_sync}
use Rattle.strict_top.specs.Reports.{verdict_line}
use Rattle.strict_top.proofs.ReportLemmas.{at_line, lines_end, lines_from}
use Rattle.strict_top.proofs.Writing.{starts, goes_on, all_written, left_fits, part_so_far, part_written}
use Rattle.strict_top.proofs.report.write_report.Goals as goal

pub verdict-requires-send-L-Source : goal.verdict-requires-send-L-Source
verdict-requires-send-L-Source g c κs = search (source_send, param_send, arg_send)

pub verdict-requires-sync-L-Source : goal.verdict-requires-sync-L-Source
verdict-requires-sync-L-Source g c κs = search (source_sync, param_sync, arg_sync)

pub loop-number-init : goal.loop-number-init
loop-number-init g c = record { so_far = starts _ _ _; count = refl }

pub returns-in_err-line-clause-err : goal.returns-in_err-line-clause-err
returns-in_err-line-clause-err g c =
    let p = err_from_is_err_and c.from_residual.result c.from_residual.ensures.1 in
    rw p.1 (part_so_far _ c.loop-number.invariant.so_far refl)

pub write_all-requires : goal.write_all-requires
write_all-requires g c =
    let files = c.args.files.now in
    let verdicts = c.args.world.now in
    let i = c.loop-number.number in
    let line = c.as_bytes.result.now in
    let spelled = c.as_bytes.ensures.value ∙ c.in_ok-line.ensures ∙ ap (λ name. verdict_line name c.verdict.result.now) c.as_str.ensures.value in
    let so_far = at_line files verdicts i c.index-files-number.result c.verdict.result.now line c.loop-number-test.true c.index-files-number.is c.verdict.ensures spelled c.loop-number.invariant.so_far in
    λ room is.
    let fits : length (line ++ lines_from (i + 1) files verdicts) ≤ room = left_fits so_far c.requires.room room is in
    let both = length-append line (lines_from (i + 1) files verdicts) in
    omega (arith, fits, both)

pub returns-in_err-write_all-clause-err : goal.returns-in_err-write_all-clause-err
returns-in_err-write_all-clause-err g c =
    let p = err_from_is_err_and c.from_residual-in_err-write_all.result c.from_residual-in_err-write_all.ensures.1 in
    let line = c.as_bytes.result.now in
    let spelled = c.as_bytes.ensures.value ∙ c.in_ok-line.ensures ∙ ap (λ name. verdict_line name c.verdict.result.now) c.as_str.ensures.value in
    let so_far = at_line c.args.files.now c.args.world.now c.loop-number.number c.index-files-number.result c.verdict.result.now line
    c.loop-number-test.true c.index-files-number.is c.verdict.ensures spelled c.loop-number.invariant.so_far in
    rw p.1 (part_written _ line c.in_err-write_all.ensures.err.0 _ so_far c.in_err-write_all.ensures.err.1)

pub loop-number-preserved : goal.loop-number-preserved
loop-number-preserved g c =
    let line = c.as_bytes.result.now in
    let spelled = c.as_bytes.ensures.value ∙ c.in_ok-line.ensures ∙ ap (λ name. verdict_line name c.verdict.result.now) c.as_str.ensures.value in
    let so_far = at_line c.args.files.now c.args.world.now c.loop-number.number c.index-files-number.result c.verdict.result.now line
    c.loop-number-test.true c.index-files-number.is c.verdict.ensures spelled c.loop-number.invariant.so_far in
    record {
      so_far = goes_on line _ _ so_far c.in_ok-write_all.ensures.ok c.in_ok-write_all.ensures.room;
      count = c.in_ok-write_all.ensures.count ∙ c.loop-number.invariant.count;
    }

pub returns-clause-ok : goal.returns-clause-ok
returns-clause-ok g c =
    let past : length c.args.files.now ≤ c.loop-number.number = grind arith in
    all_written c.loop-number.invariant.so_far (lines_end c.args.files.now c.args.world.now c.loop-number.number past)
