use Rattle.std.proofs.Common.{◌≡◌, ◌≤◌, ◌||◌, ℕ, List, length, sym, ap, ◌∙◌, arith}
use Rattle.import_graph.specs.Sets.{is_in}
use Rattle.import_graph.proofs.Bits.{joined_below}
use Rattle.import_graph.proofs.sets.NumberSet.join.Goals as goal

pub returns-clause-marks : goal.returns-clause-marks
returns-clause-marks c n =
    let words : List ℕ = c.self.inside.words.items in
    let other : List ℕ = c.other.inside.words.items in
    let same : length words ≡ length other = ap length c.self.view_is ∙ c.requires ∙ sym (ap length c.other.view_is) in
    let end : length words ≤ c.loop-at.at = omega (arith, c.loop-at-test.false, c.len-at-end.ensures, c.self.inside.words.ok) in
    joined_below words other c.loop-at.self-inside.words.items c.loop-at.at same end c.loop-at.invariant.done c.loop-at.invariant.left n
    ∙ ap (λ words. is_in words n || is_in other n) c.self.view_is ∙ ap (λ words. is_in c.args.self.now n || is_in words n) c.other.view_is
