-- What stands between the quotes is read, or nothing stands there.
use Rattle.std.proofs.Common.{rules, sym, subst, refl, length, ◌-◌, take, drop}
use Rattle.py_lexer.specs.Strings.{Parts}
use Rattle.py_lexer.specs.Views.{IsNoToken, opening_view}
use Rattle.py_lexer.proofs.Lexemes.{string_stands, no_string}
use Rattle.py_lexer.proofs.lexeme.string_at.Goals as goal

pub returns-in-Ok-Some : goal.returns-in-Ok-Some
returns-in-Ok-Some c =
    let text = c.args.text.now in
    let parts : Parts c.opening.result.0 c.opening.result.1.now c.in-Ok-Some.rest.now c.in-Ok-Some.value = search rules in
    (string_stands text c.index-text-0.result (take (length text - 1) (drop 1 text)) (opening_view c.opening.result) c.in-Ok-Some.rest.now c.in-Ok-Some.value (search rules) (search rules) refl c.opening.ensures parts, refl)

pub returns-in-Ok-None : goal.returns-in-Ok-None
returns-in-Ok-None c =
    let text = c.args.text.now in
    subst (IsNoToken c.args.line text) (sym c.fault.ensures) (no_string c.args.line text c.index-text-0.result (take (length text - 1) (drop 1 text)) (opening_view c.opening.result) (search rules) (search rules) refl c.opening.ensures (search rules))
