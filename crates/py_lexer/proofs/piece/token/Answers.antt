-- A token that stands is settled, and where none stands none is a piece.
use Rattle.std.proofs.Common.{rules, ◌≡◌, true, arith}
use Rattle.std.proofs.lemmas.Result.{err_from_is_err_and}
use Rattle.py_lexer.specs.Pieces.{fits}
use Rattle.py_lexer.specs.Reading.{settled}
use Rattle.py_lexer.specs.Tokens.{TokenAt}
use Rattle.py_lexer.proofs.Shorter.{token_shortens}
use Rattle.py_lexer.proofs.Steps.{gives_step, right_settled, right_no_token}
use Rattle.py_lexer.proofs.piece.token.Goals as goal

pub settled-requires-clause-within : goal.settled-requires-clause-within
settled-requires-clause-within c =
    let stands : TokenAt c.args.text.now c.in_ok-token.rest.now c.in_ok-token.token × (fits c.in_ok-token.token ≡ true) = search rules in
    omega (arith, token_shortens stands.0)

pub returns : goal.returns
returns c =
    let stands : TokenAt c.args.text.now c.in_ok-token.rest.now c.in_ok-token.token × (fits c.in_ok-token.token ≡ true) = search rules in
    gives_step c.args.place c.args.text.now (settled c.args.place c.in_ok-token.token c.args.text.now c.in_ok-token.rest.now) c.settled.result c.settled.ensures
    (right_settled c.args.place c.args.text.now c.in_ok-token.rest.now c.in_ok-token.token c.requires.fresh stands.0 stands.1)

pub returns-in_err-token : goal.returns-in_err-token
returns-in_err-token c =
    let p = err_from_is_err_and c.from_residual.result c.from_residual.ensures.1 in
    rw (p.1, p.2) (right_no_token c.args.place c.args.text.now c.args.starts c.in_err-token.field-0.0 c.requires.fresh c.requires.kind c.in_err-token.ensures)
