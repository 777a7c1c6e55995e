use Rattle.std.proofs.Common.{◌≡◌, ◌∷◌, ◌++◌, [], reverse, rules}
use Rattle.std.proofs.lemmas.Result.{err_from_is_err_and}
use Rattle.py_blocks.specs.Rows.{rows_of}
use Rattle.module_load.proofs.LineForms.{at_first, at_line, further, stopped, whole}
use Rattle.module_load.proofs.preparing.forms_of.Goals as goal

pub loop-line-init : goal.loop-line-init
loop-line-init c =
    let none : c.from_vec-forms.result ≡ [] = search rules in
    at_first c.args.lines c.in_ok-left.left c.from_vec-forms.result c.in_ok-left.ensures none

pub loop-line-preserved : goal.loop-line-preserved
loop-line-preserved c =
    let all : c.loop-line.left ≡ c.pop.new.self ++ c.in-Some.line ∷ [] = search rules in
    let here = at_line c.args.lines (rows_of c.loop-line.forms) c.loop-line.left c.pop.new.self c.in-Some.line all c.loop-line.invariant in
    further c.args.lines (reverse c.pop.new.self) c.in-Some.line c.loop-line.forms c.push.new.self c.in_ok-form.form here c.in_ok-form.ensures c.in_ok-push.ensures.ok

pub returns-in_err-form : goal.returns-in_err-form
returns-in_err-form c =
    let all : c.loop-line.left ≡ c.pop.new.self ++ c.in-Some.line ∷ [] = search rules in
    let here = at_line c.args.lines (rows_of c.loop-line.forms) c.loop-line.left c.pop.new.self c.in-Some.line all c.loop-line.invariant in
    let p = err_from_is_err_and c.from_residual-in_err-form.result c.from_residual-in_err-form.ensures.1 in
    rw (p.1, p.2) (stopped c.args.lines (reverse c.pop.new.self) c.in-Some.line (rows_of c.loop-line.forms) c.in_err-form.field-0.0 here c.in_err-form.ensures)

pub returns : goal.returns
returns c =
    let none : c.loop-line.left ≡ [] = search rules in
    whole c.args.lines c.loop-line.left (rows_of c.loop-line.forms) none c.loop-line.invariant
