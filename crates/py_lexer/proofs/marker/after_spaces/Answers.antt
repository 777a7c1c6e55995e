-- As many spaces are dropped as were counted at the front.
use Rattle.std.proofs.Common.{rules, ◌≡◌, ◌∙◌, ap, ℕ, length, take, drop}
use Rattle.std.specs.List.{prefix_len}
use Rattle.std.proofs.lemmas.Iterator.{YieldsList-from_slice}
use Rattle.std.proofs.lemmas.Iterator.Consumers.{YieldsList-at, count_from_yields_List}
use Rattle.std.proofs.lemmas.Iterator.Search.{YieldsList-from_take_while}
use Rattle.std.proofs.lemmas.List.{take_rest}
use Rattle.std.proofs.lemmas.List.Folds.{length-prefix_len}
use borrow.Author.Tests.{tests}
use Rattle.py_lexer.specs.Marker.{is_space}
use Rattle.py_lexer.proofs.marker.after_spaces.Goals as goal

pub returns : goal.returns
returns c =
    let bytes = c.args.bytes.now in
    let counted : c.count-spaces.result ≡ length (take (prefix_len is_space bytes) bytes) =
    count_from_yields_List c.take_while.result c.count-spaces.result c.count-spaces.ensures.ran
    (YieldsList-from_take_while _ is_space (YieldsList-at c.take_while.ensures.source (YieldsList-from_slice bytes c.iter.ensures.rest)) c.take_while.ensures.closure c.take_while.ensures.done (λ x b q k. search (rules, tests))) in
    take_rest bytes c.count-spaces.result ∙ ap (λ (n : ℕ). drop n bytes) (counted ∙ length-prefix_len is_space bytes)
