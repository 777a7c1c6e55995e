use Rattle.std.proofs.Common.{◌≡◌, ◌<◌, ◌≤◌, ℕ, length, get_or, bit_or}
use Rattle.import_graph.proofs.sets.NumberSet.join.Given as goal

abbrev pub invariant-loop-at : goal.invariant-loop-at
invariant-loop-at l = record {
  room : length l.self-inside.words.items ≡ length l.initial.self-inside.words.items;
  done : (i : ℕ) → i < l.at → get_or l.self-inside.words.items i 0 ≡ bit_or (get_or l.initial.self-inside.words.items i 0) (get_or l.other-inside.words.items i 0);
  left : (i : ℕ) → l.at ≤ i → get_or l.self-inside.words.items i 0 ≡ get_or l.initial.self-inside.words.items i 0;
}
