use Rattle.std.proofs.lemmas.Result.{IfOk-weaker}
use Rattle.py_lexer.specs.declared.token.Keyword.TheVariants as word
use Rattle.py_tree.specs.Joined.{expression_of}
use Rattle.py_tree.specs.Nesting.{nesting}
use Rattle.py_phrases.specs.Ends.{IsEnd}
use Rattle.py_phrases.specs.Grammar.{E, Spells}
use Rattle.py_expr.specs.Heads.{ExceptBehind, FoundBehind}
use Rattle.py_expr.proofs.FoundAt.{some_found, none_found}
use Rattle.py_expr.proofs.Heads.{except_alone, no_matches}
use Rattle.py_expr.proofs.head.except_head.Goals as goal

pub returns-in-Some : goal.returns-in-Some
returns-in-Some c = except_alone c.args.tokens.now c.in-Some.rest.now c.in-Some.ensures

pub returns-in-Some-2 : goal.returns-in-Some-2
returns-in-Some-2 c =
    let matches = c.in-Some-2.found in
    IfOk-weaker c.except_of.result (ExceptBehind matches.built matches.rest.now) (FoundBehind word.Except c.args.tokens.now) (λ found h. h c.args.tokens.now (some_found c.in-Some-2.is c.in_ok-found.ensures)) c.except_of.ensures

pub returns-in-None : goal.returns-in-None
returns-in-None c = no_matches c.args.tokens.now c.in_default.ensures (none_found (Spells E) (IsEnd E) expression_of nesting c.args.tokens.now c.in-None.is c.in_ok-found.ensures)
