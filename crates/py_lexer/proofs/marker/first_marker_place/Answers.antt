-- The iterator gives the lines, one after the other.
use Rattle.std.proofs.Common.{rules}
use Rattle.std.proofs.lemmas.Iterator.Consumers.{YieldsList-from_first}
use Rattle.std.proofs.lemmas.Iterator.Search.{position_from_yields_List}
use borrow.Author.Tests.{tests}
use Rattle.py_lexer.specs.Lines.{lines_left}
use Rattle.py_lexer.specs.Marker.{is_marker_line}
use Rattle.py_lexer.proofs.marker.first_marker_place.Goals as goal

pub returns : goal.returns
returns c = position_from_yields_List is_marker_line c.position.new.self _ _ c.position.ensures.ran (YieldsList-from_first (λ x. x.now) lines_left _ c.new.ensures.lines) (λ x b q k. search (rules, tests))
