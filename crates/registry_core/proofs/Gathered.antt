-- What an implementer of `Loads` uses: right verdicts have the world's data, and what is gathered has, for each module, what the list has
-- that `right` takes.
use Rattle.std.proofs.Common.{◌≡◌, ◌==◌, ℕ, ◌≤◌, ◌||◌, Bool, zero, suc, true, false, cond, List, [], ◌∷◌, Option, Some, None, refl, sym, ap, ◌∙◌, arith}
use Rattle.std.specs.Prelude.{slice_get}
use Rattle.std.specs.List.{find}
use Rattle.std.specs.Option.{option_map}
use Rattle.std.specs.Arc.{arc_value}
use Rattle.std.proofs.lemmas.Bool.Decides.{nat_tests}
use Rattle.import_graph.specs.Graph.{has}
use Rattle.import_graph.specs.Closure.{count, need_of}
use Rattle.import_graph.specs.World.{world, needs, with_each}
use Rattle.import_graph.proofs.Worlds.{world_is}
use Rattle.import_graph.proofs.NeedLaws.{has_needs}
use Rattle.registry_core.specs.declared.sources.Sources.{Sources}
use Rattle.registry_core.specs.declared.imports.Import.{Import}
use Rattle.registry_core.specs.Imports.{has_row}
use Rattle.registry_core.specs.Verdicts.{rules_of, IsWorld, IsWorldData, Gathers, data_list, count_rows}
use Rattle.registry_core.proofs.OnceEach.{eq_swap, count_rows-cons}

-- the data of a right verdict is the world's
pub world_data : {L S V D : Type 0} (verdict_data : V → D) (right : L → Sources S → ℕ → List (ℕ × D) → D) (is_right : L → Sources S → ℕ → List (ℕ × D) → V → Type 0) (is_refused : D → Bool)
    → ((l : L) (all : Sources S) (m : ℕ) (list : List (ℕ × D)) (v : V) → is_right l all m list v → verdict_data v ≡ right l all m list)
    → (loads : Option L) (sources : Option (Sources S)) (m : ℕ) (v : V) → IsWorld right is_right is_refused loads sources m v → IsWorldData right is_refused loads sources m (verdict_data v)
world_data verdict_data right is_right is_refused law None sources m v w = absurd w
world_data verdict_data right is_right is_refused law (Some l) None m v w = absurd w
world_data verdict_data right is_right is_refused law (Some l) (Some all) m v w =
    let R = rules_of right is_refused l all in
    law l all m (needs R m) v w ∙ sym (world_is R (count all.graph) (has_needs all.graph) m)

-- what a list has of a module
abbrev pub data_at : {D : Type 0} → List (ℕ × D) → ℕ → Option D
data_at list n = option_map (λ (row : ℕ × _). row.1) (find (λ (row : ℕ × _). row.0 == n) list)

-- the data of module n, where it is there
abbrev there : {D : Type 0} → (ℕ → D) → ℕ → Bool → Option D
there f n b = cond b (Some (f n)) None

data_at-head : {D : Type 0} (f : ℕ → D) (n k : ℕ) (list : List (ℕ × D)) (rest : Bool) → data_at list n ≡ there f n rest → data_at ((k, f k) ∷ list) n ≡ there f n ((k == n) || rest)
data_at-head {D} f n k list rest h = by (k == n) refl
  where
    by : (b : Bool) → (k == n) ≡ b → option_map (λ (row : ℕ × D). row.1) (cond b (Some (k, f k)) (find (λ (row : ℕ × D). row.0 == n) list)) ≡ there f n (b || rest)
    by true e =
        let same : k ≡ n = grind (arith, nat_tests) in
        ap (λ x. Some (f x)) same
    by false e = h

data-with_each : {D : Type 0} (f : ℕ → D) (ns : List ℕ) (n : ℕ) → data_at (with_each f ns) n ≡ there f n (has n ns)
data-with_each f [] n = refl
data-with_each f (k ∷ ns) n = data_at-head f n k (with_each f ns) (has n ns) (data-with_each f ns n) ∙ ap (λ b. there f n (b || has n ns)) (eq_swap k n)

data-rows : {V D : Type 0} (verdict_data : V → D) (f : ℕ → D) (rows : List (Import V)) (n : ℕ)
    → ((k : ℕ) (row : Import V) → slice_get rows k ≡ Some row → verdict_data (arc_value row.verdict) ≡ f row.module) → data_at (data_list verdict_data rows) n ≡ there f n (has_row rows n)
data-rows verdict_data f [] n h = refl
data-rows verdict_data f (row ∷ rows) n h =
    ap (λ d. data_at ((row.module, d) ∷ data_list verdict_data rows) n) (h zero row refl)
    ∙ data_at-head f n row.module (data_list verdict_data rows) (has_row rows n) (data-rows verdict_data f rows n (λ k x i. h (suc k) x i))

has_one : {V : Type 0} (rows : List (Import V)) (n : ℕ) → 1 ≤ count_rows n rows → has_row rows n ≡ true
has_one [] n h = absurd (omega arith)
has_one (row ∷ rows) n h = by (row.module == n) refl (has_one rows n)
  where
    by : (b : Bool) → (row.module == n) ≡ b → (1 ≤ count_rows n rows → has_row rows n ≡ true) → b || has_row rows n ≡ true
    by true e rest = refl
    by false e rest = rest (omega (arith, count_rows-cons n row rows, ap (λ b. cond {A = ℕ} b 1 0) e, h))

has_none : {V : Type 0} (rows : List (Import V)) (n : ℕ) → count_rows n rows ≡ 0 → has_row rows n ≡ false
has_none [] n h = refl
has_none (row ∷ rows) n h = by (row.module == n) refl (has_none rows n)
  where
    by : (b : Bool) → (row.module == n) ≡ b → (count_rows n rows ≡ 0 → has_row rows n ≡ false) → b || has_row rows n ≡ false
    by true e rest = absurd (omega (arith, count_rows-cons n row rows, ap (λ b. cond {A = ℕ} b 1 0) e, h))
    by false e rest = rest (omega (arith, count_rows-cons n row rows, h))

-- the modules of the rows are those of the need
pub gathered_has : {L S V D : Type 0} (right : L → Sources S → ℕ → List (ℕ × D) → D) (is_right : L → Sources S → ℕ → List (ℕ × D) → V → Type 0) (is_refused : D → Bool)
    → (l : L) (all : Sources S) (m : ℕ) (rows : List (Import V)) → Gathers right is_right is_refused (Some l) (Some all) m rows → (n : ℕ) → has_row rows n ≡ has n (need_of all.graph m)
gathered_has right is_right is_refused l all m rows w n = by (has n (need_of all.graph m)) refl
  where
    by : (b : Bool) → has n (need_of all.graph m) ≡ b → has_row rows n ≡ b
    by true e = has_one rows n (omega (arith, w.once n e))
    by false e = has_none rows n (w.no_other n e)

-- what is gathered has, for each module, what the list has over which the right data is taken
pub gathered_at : {L S V D : Type 0} (verdict_data : V → D) (right : L → Sources S → ℕ → List (ℕ × D) → D) (is_right : L → Sources S → ℕ → List (ℕ × D) → V → Type 0) (is_refused : D → Bool)
    → ((l : L) (all : Sources S) (m : ℕ) (list : List (ℕ × D)) (v : V) → is_right l all m list v → verdict_data v ≡ right l all m list)
    → (l : L) (all : Sources S) (m : ℕ) (rows : List (Import V)) → Gathers right is_right is_refused (Some l) (Some all) m rows
    → (n : ℕ) → data_at (data_list verdict_data rows) n ≡ data_at (needs (rules_of right is_refused l all) m) n
gathered_at verdict_data right is_right is_refused law l all m rows w n =
    let f = world (rules_of right is_refused l all) in
    data-rows verdict_data f rows n (λ k row h. world_data verdict_data right is_right is_refused law (Some l) (Some all) row.module (arc_value row.verdict) (w.verdicts k row h))
    ∙ ap (there f n) (gathered_has right is_right is_refused l all m rows w n)
    ∙ sym (data-with_each f (need_of all.graph m) n)
