use Rattle.std.proofs.Common.{◌≡◌, ◌≤◌, ◌<◌, ◌||◌, ◌&&◌, ℕ, [], length}
use Rattle.std.specs.Prelude.{slice_index_or}
use Rattle.import_graph.specs.Sets.{is_in}
use Rattle.import_graph.proofs.reach.pass_on.Given as goal

abbrev pub invariant-loop-at : goal.invariant-loop-at
invariant-loop-at l = record {
  room : (m : ℕ) → length (slice_index_or l.table m []) ≡ length (slice_index_or l.initial.table m []);
  done : (m n : ℕ) → m < l.at → is_in (slice_index_or l.table m []) n ≡ is_in (slice_index_or l.initial.table m []) n || (is_in (slice_index_or l.initial.table m []) l.by && is_in l.from n);
  left : (m : ℕ) → l.at ≤ m → slice_index_or l.table m [] ≡ slice_index_or l.initial.table m [];
}
