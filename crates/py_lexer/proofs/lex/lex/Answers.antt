-- What is answered is so, and is the one answer.
use Rattle.std.proofs.Common.{rules, Err, sym, subst}
use Rattle.std.proofs.lemmas.Result.{err_from_is_err_and}
use Rattle.py_lexer.specs.Lexing.{IsSo}
use Rattle.py_lexer.proofs.WholeText.{so_too_large, so_no_text, so_read, answered, fits_in}
use Rattle.py_lexer.proofs.lex.lex.Goals as goal

pub returns-then-text-gt-GREATEST_SIZE-clause-so :
    goal.returns-then-text-gt-GREATEST_SIZE-clause-so
returns-then-text-gt-GREATEST_SIZE-clause-so c = subst (λ e. IsSo c.args.text.now (Err e)) (sym c.fault.ensures) (so_too_large c.args.text.now c.if-text-gt-GREATEST_SIZE.true)

pub returns-then-text-gt-GREATEST_SIZE-clause-answered :
    goal.returns-then-text-gt-GREATEST_SIZE-clause-answered
returns-then-text-gt-GREATEST_SIZE-clause-answered c = answered c.args.text.now (Err c.fault.result) (returns-then-text-gt-GREATEST_SIZE-clause-so c)

pub returns-in_err-characters-clause-so : goal.returns-in_err-characters-clause-so
returns-in_err-characters-clause-so c =
    let p = err_from_is_err_and c.from_residual.result c.from_residual.ensures.1 in
    rw (p.1, p.2) (so_no_text c.args.text.now c.in_err-characters.field-0.0 c.if-text-gt-GREATEST_SIZE.false c.in_err-characters.ensures)

pub returns-in_err-characters-clause-answered : goal.returns-in_err-characters-clause-answered
returns-in_err-characters-clause-answered c = answered c.args.text.now c.from_residual.result (returns-in_err-characters-clause-so c)

pub read-requires : goal.read-requires
read-requires c =
    fits_in c.args.text.now c.deref.result.now c.without_mark.result.now c.if-text-gt-GREATEST_SIZE.false c.in_ok-characters.ensures.0 (search rules) c.without_mark.ensures

pub returns-clause-so : goal.returns-clause-so
returns-clause-so c =
    so_read c.args.text.now c.deref.result.now c.without_mark.result.now c.read.result c.if-text-gt-GREATEST_SIZE.false c.in_ok-characters.ensures.0 (search rules) c.without_mark.ensures c.read.ensures

pub returns-clause-answered : goal.returns-clause-answered
returns-clause-answered c = answered c.args.text.now c.read.result (returns-clause-so c)
