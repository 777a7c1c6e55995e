use Rattle.std.proofs.Common.{◌≡◌, ◌==◌, ℕ, length, take}
use Rattle.std.specs.List.{list_any}
use Rattle.import_graph.specs.Sets.{is_in, words_for}
use Rattle.import_graph.proofs.reach.imported.Given as goal

abbrev pub invariant-loop-import : goal.invariant-loop-import
invariant-loop-import l = record {
  marks : (n : ℕ) → is_in l.set n ≡ list_any (λ i. i.module == n) (take l.import-index l.row);
  room : length l.set ≡ words_for l.bound;
}
