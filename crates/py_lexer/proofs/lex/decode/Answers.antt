-- What is no text is bad from some byte on.
use Rattle.std.proofs.Common.{rules, ◌≡◌, ◌+◌, take, sym, ap, subst}
use Rattle.py_lexer.specs.Characters.{line_feeds}
use Rattle.py_tree.specs.declared.code.Code.TheVariants as code
use Rattle.py_lexer.specs.Pieces.{fault}
use Rattle.py_lexer.specs.Views.{IsBadText}
use Rattle.py_lexer.proofs.lex.decode.Goals as goal

pub returns-in-Err : goal.returns-in-Err
returns-in-Err c =
    let bad = c.in-Err.ensures.cases in
    let line : fault (1 + c.byte_line_feeds.result) code.BadEncoding ≡ fault (1 + line_feeds (take c.valid_up_to.result c.args.text.now)) code.BadEncoding = ap (λ n. fault (1 + n) code.BadEncoding) c.byte_line_feeds.ensures.count in
    subst (IsBadText c.args.text.now) (sym c.fault.ensures) (bad.0, (c.valid_up_to.result, search rules, line))
