use Rattle.std.proofs.Common.{rules, ◌≡◌, ◌<◌, ◌∙◌, ap, sym, ℕ, Option, Some, None, length}
use Rattle.std.specs.Prelude.{MatchOption, is_some}
use Rattle.py_tree.specs.Syntax.{Text}
use Rattle.atom_ops.specs.Operators as spec
use Rattle.atom_ops.specs.Search.{IsNextPlace, IsNowhere}
use Rattle.atom_ops.proofs.Places.{contained, not_contained, too_long}
use Rattle.atom_ops.proofs.search.contains.Goals as goal

found : (part text : Text) (o : Option ℕ) → MatchOption o (IsNowhere part text 0) (λ place. IsNextPlace part text 0 place) → is_some o ≡ spec.contains part text
found part text (Some place) h = sym (contained part text place h.there)
found part text None h = not_contained part text h

pub returns-then-text-part : goal.returns-then-text-part
returns-then-text-part c = let longer : length c.args.text.now < length c.args.part.now = search rules in record { found = not_contained _ _ (too_long _ _ longer) }

pub returns : goal.returns
returns c =
    let is = found c.in_ok-pattern.pattern.part.now c.args.text.now c.find.result c.find.ensures.place in
    record { found = c.is_some.ensures ∙ is ∙ ap (λ part. spec.contains part c.args.text.now) c.in_ok-pattern.ensures.part }
