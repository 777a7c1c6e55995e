-- A spelling that isn't over doesn't stand where the text is over.
use Rattle.std.proofs.Common.{rules}
use Rattle.py_lexer.proofs.AfterSpelling.{over_early}
use Rattle.py_lexer.proofs.spelled.after_spelling.Goals as goal

pub returns-in-empty : goal.returns-in-empty
returns-in-empty c = over_early c.args.spelling.now c.loop-byte.rest.now c.loop-byte.byte-index _ (search rules) (search rules) c.loop-byte.invariant
