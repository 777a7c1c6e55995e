use Rattle.std.proofs.Common.{Err}
use Rattle.std.proofs.lemmas.Result.{err_from_is_err_and}
use Rattle.module_load.proofs.OneParse.{only}
use Rattle.module_load.proofs.Phases.{no_lines, no_forms, built, built_lawful}
use Rattle.module_load.proofs.preparing.parse.Goals as goal

pub returns-in_err-lines-clause-so : goal.returns-in_err-lines-clause-so
returns-in_err-lines-clause-so c =
    let p = err_from_is_err_and c.from_residual.result c.from_residual.ensures.1 in
    rw (p.1, p.2) (no_lines c.args.bytes.now c.in_err-lines.field-0.0 c.in_err-lines.ensures.so)

pub returns-in_err-forms-clause-so : goal.returns-in_err-forms-clause-so
returns-in_err-forms-clause-so c =
    let p = err_from_is_err_and c.from_residual-in_err-forms.result c.from_residual-in_err-forms.ensures.1 in
    rw (p.1, p.2) (no_forms c.args.bytes.now c.in_ok-lines.lines c.in_err-forms.field-0.0 c.in_ok-lines.ensures.so c.in_err-forms.ensures)

pub returns-clause-so : goal.returns-clause-so
returns-clause-so c = built c.args.bytes.now c.in_ok-lines.lines c.in_ok-forms.forms c.build.result c.in_ok-lines.ensures.so c.in_ok-forms.ensures c.build.ensures.right

pub returns-clause-lawful : goal.returns-clause-lawful
returns-clause-lawful c = built_lawful c.args.bytes.now c.in_ok-lines.lines c.in_ok-forms.forms c.build.result c.in_ok-lines.ensures.so c.in_ok-forms.ensures c.build.ensures.lawful

pub returns-in_err-lines-clause-exact : goal.returns-in_err-lines-clause-exact
returns-in_err-lines-clause-exact c =
    let p = err_from_is_err_and c.from_residual.result c.from_residual.ensures.1 in
    rw (p.1, p.2) (only c.args.bytes.now (Err c.in_err-lines.field-0.0) (no_lines c.args.bytes.now c.in_err-lines.field-0.0 c.in_err-lines.ensures.so))

pub returns-in_err-forms-clause-exact : goal.returns-in_err-forms-clause-exact
returns-in_err-forms-clause-exact c =
    let p = err_from_is_err_and c.from_residual-in_err-forms.result c.from_residual-in_err-forms.ensures.1 in
    rw (p.1, p.2) (only c.args.bytes.now (Err c.in_err-forms.field-0.0) (no_forms c.args.bytes.now c.in_ok-lines.lines c.in_err-forms.field-0.0 c.in_ok-lines.ensures.so c.in_err-forms.ensures))

pub returns-clause-exact : goal.returns-clause-exact
returns-clause-exact c = only c.args.bytes.now c.build.result (built c.args.bytes.now c.in_ok-lines.lines c.in_ok-forms.forms c.build.result c.in_ok-lines.ensures.so c.in_ok-forms.ensures c.build.ensures.right)
