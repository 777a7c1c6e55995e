use Rattle.std.proofs.Common.{◌≡◌, drop, map}
use Rattle.py_lexer.specs.Tokens.{keyword_among}
use Rattle.py_lexer.specs.Views.{spelling_view}
use Rattle.py_lexer.proofs.spelled.keyword_among.Given as goal

abbrev pub invariant-loop-spelling : goal.invariant-loop-spelling
invariant-loop-spelling l = keyword_among (map spelling_view (drop l.spelling-index l.keywords)) l.name ≡ keyword_among (map spelling_view l.keywords) l.name
