use Rattle.std.proofs.Common.{◌≡◌, ◌<◌, ℕ, Some, length}
use Rattle.std.specs.Prelude.{slice_get}
use Rattle.import_graph.specs.Built.{links_of}
use Rattle.import_graph.proofs.graph.all_links.Given as goal

abbrev pub invariant-loop-module : goal.invariant-loop-module
invariant-loop-module l = record {
  all : length l.links ≡ l.module;
  each : (m : ℕ) → m < l.module → slice_get l.links m ≡ Some (links_of l.rows m);
}
