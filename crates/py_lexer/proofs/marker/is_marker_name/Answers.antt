-- A name of the table is one of the definition's.
use Rattle.std.proofs.Common.{rules}
use Rattle.std.proofs.lemmas.Iterator.{YieldsList-from_slice}
use Rattle.std.proofs.lemmas.Iterator.Search.{any_from_yields_List}
use borrow.Author.Tests.{tests}
use Rattle.py_lexer.specs.Marker.{is_name_and_spaces}
use Rattle.py_lexer.proofs.marker.is_marker_name.Goals as goal

pub returns : goal.returns
returns c = any_from_yields_List (λ name. is_name_and_spaces c.args.bytes.now name.now) _ _ _ c.any.ensures.ran (YieldsList-from_slice _ c.iter.ensures.rest) (λ x b q k. search (rules, tests))
