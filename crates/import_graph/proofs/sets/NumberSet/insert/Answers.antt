use Rattle.std.proofs.Common.{◌<◌, ◌/◌, ◌||◌, ◌==◌, ℕ, List, length, sym, ap, ◌∙◌, subst}
use Rattle.std.proofs.lemmas.Grind.{get_or_default_zero}
use Rattle.import_graph.specs.Sets.{is_in}
use Rattle.import_graph.proofs.Bits.{inserted}
use Rattle.import_graph.proofs.sets.NumberSet.insert.Goals as goal

pub returns-clause-marks : goal.returns-clause-marks
returns-clause-marks c n =
    let words : List ℕ = c.self.inside.words.items in
    let at : ℕ = c.args.number / 64 in
    let within : at < length words = subst (λ (words : List ℕ). at < length words) (sym c.self.view_is) c.requires in
    inserted words c.args.number n c.index_mut.result.now within (c.index_mut.ensures.value ∙ get_or_default_zero words at c.index_mut.result.now within)
    ∙ ap (λ words. (c.args.number == n) || is_in words n) c.self.view_is
