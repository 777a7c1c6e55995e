use Rattle.std.proofs.Common.{◌≡◌, ◌≤◌, length}
use Rattle.atom_ops.specs.Shared.{AreLengths, IsWindow}
use Rattle.atom_ops.proofs.search.own_lengths.Given as goal

abbrev pub invariant-loop-place : goal.invariant-loop-place
invariant-loop-place l =
    record {
      behind : l.window.start ≤ l.place;
      window : IsWindow l.part l.part l.window;
      count : length l.lengths.items ≡ l.place;
      lengths : AreLengths l.part l.lengths.items;
    }
