use Rattle.std.proofs.Common.{◌≡◌, ◌<◌, ℕ, [], length}
use Rattle.std.specs.Prelude.{slice_index_or}
use Rattle.import_graph.specs.Graph.{imports}
use Rattle.import_graph.specs.Sets.{is_in, words_for}
use Rattle.import_graph.proofs.reach.import_table.Given as goal

abbrev pub invariant-loop-row : goal.invariant-loop-row
invariant-loop-row l = record {
  all : length l.table.items ≡ l.row-index;
  room : (m : ℕ) → m < l.row-index → length (slice_index_or l.table.items m []) ≡ words_for (length l.rows);
  marks : (m n : ℕ) → m < l.row-index → is_in (slice_index_or l.table.items m []) n ≡ imports l.rows m n;
}
