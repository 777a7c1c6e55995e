-- The keys of the set are the names, seen through what they point to.
use Rattle.std.proofs.Common.{◌≡◌, ◌∙◌}
use Rattle.symbols.specs.Words.{among}
use Rattle.symbols.proofs.Sets.{pointed, list_any_pointed}
use Rattle.symbols.proofs.names.Names.has.Goals as goal

pub returns : goal.returns
returns c =
    let names : pointed c.self.inside.set.keys ≡ c.args.self.now = c.self.view_is in
    let name = c.as_slice.ensures.points in
    c.contains.ensures ∙ (list_any_pointed c.as_slice.result.now c.self.inside.set.keys ∙ (λ i. among (name i) (names i)))
