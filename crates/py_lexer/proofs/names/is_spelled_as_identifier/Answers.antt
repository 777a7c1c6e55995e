-- The characters behind the first decide, once it has been read.
use Rattle.std.proofs.Common.{rules, ◌≡◌, ◌++◌, sym, ◌∙◌, refl}
use Rattle.std.proofs.Math.Utf8.{encode}
use Rattle.std.proofs.lemmas.Iterator.{YieldsList-from_chars}
use Rattle.std.proofs.lemmas.Iterator.Search.{all_from_yields_List}
use borrow.Author.Tests.{tests}
use Rattle.unicode_ident.specs.Ident.{is_xid_continue}
use Rattle.py_lexer.proofs.Identifiers.{IsUtf8-after_first, spelled_by_others}
use Rattle.py_lexer.proofs.names.is_spelled_as_identifier.Goals as goal

pub returns-then-may_start_identifier : goal.returns-then-may_start_identifier
returns-then-may_start_identifier c =
    let rest = c.next.new.self.rest.now in
    let read : c.args.name.now ≡ encode c.in-Some.first ++ rest = sym c.chars-characters.ensures.rest ∙ c.in-Some.ensures.steps.0 in
    let is_text = IsUtf8-after_first _ rest _ c.utf8.name read in
    let may = sym c.if-may_start_identifier.ensures in
    all_from_yields_List is_xid_continue _ _ _ c.all.ensures.ran (YieldsList-from_chars rest is_text refl) (λ x b q k. search (rules, tests))
    ∙ sym (spelled_by_others _ rest _ c.utf8.name read may)
