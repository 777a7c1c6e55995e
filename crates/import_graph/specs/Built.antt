-- No definition of the language: what a built graph keeps of each module.
use Rattle.std.specs.Prelude.{◌≡◌, ℕ, ◌<◌, ◌≤◌, true, List, Some, length, slice_get}
use Rattle.import_graph.specs.declared.links.Links.{Links}
use Rattle.import_graph.specs.Graph.{Rows, is_graph}
use Rattle.import_graph.specs.Closure.{direct_of, reached_of, need_of, cyclic_line}

abbrev pub links_of : Rows → ℕ → Links
links_of rows m = record { direct = direct_of rows m; reached = reached_of rows m; need = need_of rows m; cyclic = cyclic_line rows m }

pub record IsBuilt (rows : Rows) (links : List Links) : Type 0 where
  pub few : length rows ≤ 4294967295
  pub whole : is_graph rows ≡ true
  pub each : (m : ℕ) → m < length rows → slice_get links m ≡ Some (links_of rows m)
