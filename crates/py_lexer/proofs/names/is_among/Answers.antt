-- The names that are pointed to are compared by their bytes.
use Rattle.std.proofs.Common.{◌∙◌}
use Rattle.py_lexer.proofs.Tables.{list_any-pointed}
use Rattle.py_lexer.proofs.names.is_among.Goals as goal

pub returns : goal.returns
returns c = c.contains.ensures.value ∙ list_any-pointed c.args.name.now c.args.names.now
