-- What has been read, with what is read from there on, is what is read of the text.
use Rattle.std.proofs.Common.{rules}
use Rattle.std.proofs.lemmas.Result.{err_from_is_err_and}
use Rattle.py_lexer.specs.Views.{step_view}
use Rattle.py_lexer.proofs.WholeText.{more, less, reads, stops}
use Rattle.py_lexer.proofs.lex.read.Goals as goal

pub returns-in_err-step : goal.returns-in_err-step
returns-in_err-step c =
    let p = err_from_is_err_and c.from_residual.result c.from_residual.ensures.1 in
    rw (p.1, p.2) (stops c.args.text.now c.loop-rest.reader c.loop-rest.place c.loop-rest.rest.now c.in_err-step.field-0.0 c.loop-rest.invariant c.in_err-step.ensures)

pub loop-rest-smaller : goal.loop-rest-smaller
loop-rest-smaller c = less c.loop-rest.place c.loop-rest.rest.now (step_view c.in_ok-step.step) c.in_ok-step.ensures

pub loop-rest-preserved : goal.loop-rest-preserved
loop-rest-preserved c = more c.args.text.now c.loop-rest.reader c.put.new.self c.loop-rest.place c.loop-rest.rest.now (step_view c.in_ok-step.step) c.loop-rest.invariant c.in_ok-step.ensures c.in_default.ensures

pub returns-in-Ok : goal.returns-in-Ok
returns-in-Ok c = reads c.args.text.now c.loop-rest.reader c.loop-rest.place c.loop-rest.rest.now c.in-Ok.lines c.loop-rest.invariant (search rules) c.in-Ok.ensures
