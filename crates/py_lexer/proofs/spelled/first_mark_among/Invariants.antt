use Rattle.std.proofs.Common.{◌≡◌, drop, map}
use Rattle.py_lexer.specs.Tokens.{first_mark}
use Rattle.py_lexer.specs.Views.{spelling_view}
use Rattle.py_lexer.proofs.spelled.first_mark_among.Given as goal

abbrev pub invariant-loop-spelling : goal.invariant-loop-spelling
invariant-loop-spelling l = first_mark (map spelling_view (drop l.spelling-index l.marks)) l.text ≡ first_mark (map spelling_view l.marks) l.text
