-- Each kind of token is read as it stands.
use Rattle.std.proofs.Common.{rules}
use Rattle.py_lexer.specs.Reading.{name_at, integer_at, mark_lexeme_at}
use Rattle.py_lexer.proofs.Lexemes.{gives, right_name_in, right_integer_in, right_mark_in}
use Rattle.py_lexer.proofs.lexeme.token_at.Goals as goal

pub returns-in-Name : goal.returns-in-Name
returns-in-Name c = gives c.args.line c.args.text.now (name_at c.args.text.now) c.name_at.result c.name_at.ensures (right_name_in c.args.line c.args.text.now (search rules))

pub returns-in-Integer : goal.returns-in-Integer
returns-in-Integer c = gives c.args.line c.args.text.now (integer_at c.args.text.now) c.integer_at.result c.integer_at.ensures (right_integer_in c.args.line c.args.text.now (search rules))

pub returns-in-Mark : goal.returns-in-Mark
returns-in-Mark c = gives c.args.line c.args.text.now (mark_lexeme_at c.args.text.now) c.mark_at.result c.mark_at.ensures (right_mark_in c.args.line c.args.text.now (search rules))
