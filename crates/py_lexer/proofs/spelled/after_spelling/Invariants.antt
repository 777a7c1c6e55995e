use Rattle.std.proofs.Common.{◌≡◌, drop}
use Rattle.py_lexer.specs.Tokens.{after_spelling}
use Rattle.py_lexer.proofs.spelled.after_spelling.Given as goal

abbrev pub invariant-loop-byte : goal.invariant-loop-byte
invariant-loop-byte l = after_spelling (drop l.byte-index l.spelling) l.rest ≡ after_spelling l.spelling l.text
