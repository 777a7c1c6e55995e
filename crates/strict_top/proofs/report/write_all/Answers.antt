use Rattle.std.proofs.Common.{refl, ◌∙◌, arith}
use Rattle.std.proofs.lemmas.Result.{err_from_is_err_and}
use Rattle.strict_top.proofs.Writing.{starts, goes_on_by, all_written, all_taken, part_so_far, left_fits}
use Rattle.strict_top.proofs.report.write_all.Goals as goal

pub loop-rest-init : goal.loop-rest-init
loop-rest-init g c = record { so_far = starts _ _ _; count = refl }

pub write-requires-clause-fits : goal.write-requires-clause-fits
write-requires-clause-fits g c = left_fits c.loop-rest.invariant.so_far c.requires

pub returns-in_err-n-clause-err : goal.returns-in_err-n-clause-err
returns-in_err-n-clause-err g c =
    let p = err_from_is_err_and c.from_residual.result c.from_residual.ensures.1 in
    rw p.1 (part_so_far _ c.loop-rest.invariant.so_far c.in_err-n.ensures.err)

pub loop-rest-preserved : goal.loop-rest-preserved
loop-rest-preserved g c = record {
  so_far = goes_on_by c.in_ok-n.n _ _ c.loop-rest.invariant.so_far (c.in_ok-n.ensures.taken).1 c.in_ok-n.ensures.ok c.in_ok-n.ensures.room;
  count = c.in_ok-n.ensures.count ∙ c.loop-rest.invariant.count;
}

pub returns-clause-ok : goal.returns-clause-ok
returns-clause-ok g c = all_written c.loop-rest.invariant.so_far (grind arith)

pub returns-clause-room : goal.returns-clause-room
returns-clause-room g c = all_taken c.loop-rest.invariant.so_far (grind arith)
