use Rattle.py_lexer.specs.declared.token.Keyword.TheVariants as word
use Rattle.py_expr.proofs.SimpleLines.{behind_word, behind_word_ok, pass_alone, break_alone, continue_alone, plain_word}
use Rattle.py_expr.proofs.simple.worded.Goals as goal

pub returns-in-Pass : goal.returns-in-Pass
returns-in-Pass c = behind_word c.args.tokens.now c.args.rest.now c.args.word word.Pass c.last.result c.requires c.in-Pass.is (pass_alone c.args.rest.now c.last.result c.last.ensures)

pub returns-in-Break : goal.returns-in-Break
returns-in-Break c = behind_word c.args.tokens.now c.args.rest.now c.args.word word.Break c.last-in-Break.result c.requires c.in-Break.is (break_alone c.args.rest.now c.last-in-Break.result c.last-in-Break.ensures)

pub returns-in-Continue : goal.returns-in-Continue
returns-in-Continue c = behind_word c.args.tokens.now c.args.rest.now c.args.word word.Continue c.last-in-Continue.result c.requires c.in-Continue.is (continue_alone c.args.rest.now c.last-in-Continue.result c.last-in-Continue.ensures)

pub returns-in-Return : goal.returns-in-Return
returns-in-Return c = behind_word_ok c.args.tokens.now c.args.rest.now c.args.word word.Return c.returned.result c.requires c.in-Return.is c.returned.ensures

pub returns-in-Raise : goal.returns-in-Raise
returns-in-Raise c = behind_word_ok c.args.tokens.now c.args.rest.now c.args.word word.Raise c.raised.result c.requires c.in-Raise.is c.raised.ensures

pub returns-in-Import : goal.returns-in-Import
returns-in-Import c = behind_word_ok c.args.tokens.now c.args.rest.now c.args.word word.Import c.imported.result c.requires c.in-Import.is c.imported.ensures

pub returns-in-From : goal.returns-in-From
returns-in-From c = behind_word_ok c.args.tokens.now c.args.rest.now c.args.word word.From c.imported_from.result c.requires c.in-From.is c.imported_from.ensures

pub plain-requires : goal.plain-requires
plain-requires c =
    let w = c.in_default in
    plain_word c.args.tokens.now c.args.rest.now c.args.word c.requires w.not-Pass w.not-Break w.not-Continue w.not-Return w.not-Raise w.not-Import w.not-From
