-- Right verdicts, over the world of what is loaded and from where.
use Rattle.std.specs.Prelude.{◌≡◌, ◌==◌, ℕ, Bool, true, false, List, [], ◌∷◌, length, Option, Some, None, slice_get, count_by}
use Rattle.std.specs.Arc.{arc_value}
use Rattle.import_graph.specs.Graph.{Rows, has}
use Rattle.import_graph.specs.Closure.{count, need_of}
use Rattle.import_graph.specs.World.{Rules, rules_over, world, needs}
use Rattle.registry_core.specs.declared.sources.Sources.{Sources}
use Rattle.registry_core.specs.declared.imports.Import.{Import}

-- the rules of these sources: `right` gives the data of a module's right verdict from the data of the verdicts of its need
abbrev pub rules_of : {L S D : Type 0} → (right : L → Sources S → ℕ → List (ℕ × D) → D) (is_refused : D → Bool) → L → Sources S → Rules D
rules_of right is_refused loads all = rules_over all.graph (right loads all) is_refused

-- the graph of what is named, if anything is
abbrev pub named_graph : {S : Type 0} → Option (Sources S) → Rows
named_graph None = []
named_graph (Some all) = all.graph

-- something is named, and the verdict is a right one of m over the world of its need
abbrev pub IsWorld : {L S V D : Type 0} → (right : L → Sources S → ℕ → List (ℕ × D) → D) (is_right : L → Sources S → ℕ → List (ℕ × D) → V → Type 0) (is_refused : D → Bool)
    → Option L → Option (Sources S) → ℕ → V → Type 0
IsWorld right is_right is_refused (Some l) (Some all) m v = is_right l all m (needs (rules_of right is_refused l all) m) v
IsWorld right is_right is_refused (Some l) None m v = ⊥
IsWorld right is_right is_refused None sources m v = ⊥

-- something is named, and the data is the world's of m
abbrev pub IsWorldData : {L S D : Type 0} → (right : L → Sources S → ℕ → List (ℕ × D) → D) (is_refused : D → Bool)
    → Option L → Option (Sources S) → ℕ → D → Type 0
IsWorldData right is_refused (Some l) (Some all) m d = d ≡ world (rules_of right is_refused l all) m
IsWorldData right is_refused (Some l) None m d = ⊥
IsWorldData right is_refused None sources m d = ⊥

-- how many of the rows are of this module
abbrev pub count_rows : {V : Type 0} → ℕ → List (Import V) → ℕ
count_rows n rows = count_by (λ (row : Import _). row.module == n) rows

-- each module of the need of m stands in exactly one of these rows, and no other module in any; each row has a right verdict
pub record Gathers {L S V D : Type 0} (right : L → Sources S → ℕ → List (ℕ × D) → D) (is_right : L → Sources S → ℕ → List (ℕ × D) → V → Type 0) (is_refused : D → Bool)
    (loads : Option L) (sources : Option (Sources S)) (m : ℕ) (rows : List (Import V)) : Type 0 where
  pub once : (n : ℕ) → has n (need_of (named_graph sources) m) ≡ true → count_rows n rows ≡ 1
  pub no_other : (n : ℕ) → has n (need_of (named_graph sources) m) ≡ false → count_rows n rows ≡ 0
  pub verdicts : (k : ℕ) (row : Import V) → slice_get rows k ≡ Some row → IsWorld right is_right is_refused loads sources row.module (arc_value row.verdict)

-- there is one verdict for each module, a right one, and their data are the world
pub record IsWhole {L S V D : Type 0} (verdict_data : V → D) (right : L → Sources S → ℕ → List (ℕ × D) → D) (is_right : L → Sources S → ℕ → List (ℕ × D) → V → Type 0) (is_refused : D → Bool)
    (loads : Option L) (sources : Option (Sources S)) (verdicts : List V) : Type 0 where
  pub all : length verdicts ≡ count (named_graph sources)
  pub right_ones : (m : ℕ) (v : V) → slice_get verdicts m ≡ Some v → IsWorld right is_right is_refused loads sources m v
  pub worlds : (m : ℕ) (v : V) → slice_get verdicts m ≡ Some v → IsWorldData right is_refused loads sources m (verdict_data v)

-- rows as modules with the data of their verdicts, the form that `right` takes
abbrev pub data_list : {V D : Type 0} → (V → D) → List (Import V) → List (ℕ × D)
data_list verdict_data [] = []
data_list verdict_data (row ∷ rest) = (row.module, verdict_data (arc_value row.verdict)) ∷ data_list verdict_data rest
