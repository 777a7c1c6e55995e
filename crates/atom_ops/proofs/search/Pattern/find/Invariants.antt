use Rattle.std.proofs.Common.{◌≤◌, ◌<◌, ℕ}
use Rattle.atom_ops.specs.Search.{StandsAt}
use Rattle.atom_ops.specs.Shared.{IsWindow}
use Rattle.atom_ops.proofs.search.Pattern.find.Given as goal

abbrev pub invariant-loop-place : goal.invariant-loop-place
invariant-loop-place l =
    record {
      behind : l.window.start ≤ l.place;
      window : IsWindow l.self.part.now l.text l.window;
      none : (earlier : ℕ) → l.from ≤ earlier → earlier < l.place → StandsAt l.self.part.now l.text earlier → ⊥;
    }
