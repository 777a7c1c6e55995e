-- The keys of the set are the names, seen through what they point to.
use Rattle.std.proofs.Common.{◌≡◌, ◌∙◌, ap, not}
use Rattle.symbols.specs.Names.{with_name}
use Rattle.symbols.specs.Words.{among}
use Rattle.symbols.proofs.Sets.{pointed, pointed_insert_key, list_any_pointed}
use Rattle.symbols.proofs.names.Names.add.Goals as goal

pub returns-clause-names : goal.returns-clause-names
returns-clause-names c =
    let names : pointed c.self.inside.set.keys ≡ c.args.self.now = c.self.view_is in
    let name = c.as_slice.ensures.points in
    ap pointed c.in_ok-insert.ensures.keys ∙ (pointed_insert_key c.self.inside.set.keys c.as_slice.result ∙ (λ i. with_name (names i) (name i)))

pub returns-clause-new : goal.returns-clause-new
returns-clause-new c =
    let names : pointed c.self.inside.set.keys ≡ c.args.self.now = c.self.view_is in
    let name = c.as_slice.ensures.points in
    c.in_ok-insert.ensures.added ∙ ap not (list_any_pointed c.as_slice.result.now c.self.inside.set.keys ∙ (λ i. among (name i) (names i)))
