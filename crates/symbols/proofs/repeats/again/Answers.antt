-- The lines are those of the second bindings, by what is known of each name.
use Rattle.std.proofs.Common.{◌≡◌, ◌∙◌, ap, subst, IfOk, List, ℕ}
use Rattle.std.specs.List.{flat_map}
use Rattle.symbols.specs.Bindings.{first_mentions, names_of}
use Rattle.symbols.specs.Names.{found}
use Rattle.symbols.specs.Repeats.{seconds}
use Rattle.symbols.proofs.Again.{seconds_are}
use Rattle.symbols.proofs.Sets.{flat_map_pointed, pointed}
use Rattle.symbols.proofs.repeats.again.Goals as goal

pub returns : goal.returns
returns c =
    let names : pointed c.as_slice.result.now ≡ first_mentions (names_of c.args.bindings.now) = c.as_slice.ensures ∙ c.in_ok-names.ensures in
    let known = found c.in_ok-repeats.repeats in
    let lines : List ℕ → List ℕ = λ name. seconds c.args.wanted.0 (known name) in
    let is = flat_map_pointed lines c.as_slice.result.now ∙ (ap (flat_map lines) names ∙ seconds_are c.args.wanted.0 c.args.bindings.now known c.in_ok-repeats.ensures) in
    subst (λ (all : List ℕ). IfOk c.lines_of.result (λ lines. lines ≡ all)) is c.lines_of.ensures
