-- What is loaded is right, over what is gathered.
use Rattle.std.proofs.Common.{◌≡◌, ℕ, zero, suc, ◌<◌, ◌==◌, ◌||◌, Bool, true, false, List, [], ◌∷◌, Option, Some, None, slice_get, length, refl, sym, ap, ◌∙◌, subst, arith}
use Rattle.std.specs.List.{position}
use Rattle.std.specs.Str.{bytes_eq}
use Rattle.py_tree.specs.Joined.{module_of}
use Rattle.py_tree.specs.Syntax.{Text}
use Rattle.py_tree.specs.declared.statement.Module.{Module}
use Rattle.import_graph.specs.World.{needs}
use Rattle.registry_core.specs.declared.imports.Import.{Import}
use Rattle.registry_core.specs.declared.sources.Sources.{Sources}
use Rattle.registry_core.specs.Verdicts.{Gathers, data_list, rules_of}
use Rattle.import_graph.specs.Closure.{count, cut, cyclic_line, need_of, reached_of, reaches}
use Rattle.import_graph.specs.Graph.{Rows, has}
use Rattle.import_graph.proofs.Cuts.{length-cut}
use Rattle.import_graph.proofs.Listed.{has_those}
use Rattle.registry_core.specs.Imports.{has_row}
use Rattle.registry_core.proofs.Gathered.{gathered_at, gathered_has}
use Rattle.std.proofs.lemmas.Bool.Decides.{nat_tests}
use Rattle.module_load.specs.declared.source.Source.{Source}
use Rattle.module_load.specs.declared.source.SourceState.{SourceState}
use Rattle.module_load.specs.declared.source.SourceState.TheVariants as source
use Rattle.module_load.specs.declared.verdict.Verdict.{Verdict}
use Rattle.module_load.specs.Folders.{names_of}
use Rattle.module_load.specs.Right.{decided, decided_of, is_refused, known_in, right, right_of_source, right_of_state, right_of_tree, unless_cyclic}
use Rattle.module_load.specs.RightDecisions.{IsRight}
use Rattle.module_load.specs.Sources.{state_of}
use Rattle.module_load.proofs.RightOnes.{right_one}

-- ---- rows, as data

abbrev pub as_list : List (Import Verdict) → List (ℕ × Verdict)
as_list rows = data_list (λ (v : Verdict). v) rows

-- lists that have the same of each module tell the same of each name
known_same : (names : List Text) (a b : List (ℕ × Verdict)) → ((n : ℕ) → decided a n ≡ decided b n) → (name : Text) → known_in names a name ≡ known_in names b name
known_same names a b same name = by (position (bytes_eq name) names)
  where
    by : (o : Option ℕ) → decided_of a o ≡ decided_of b o
    by None = refl
    by (Some n) = same n

-- ---- a tree

-- over what is gathered, the one decision of a module on no cycle is the right one
pub tree_right : {L : Type 0} (loads : L) (all : Sources Source) (m : ℕ) (rows : List (Import Verdict)) (s : Source) (tree : Module) (v : Verdict)
    → Gathers (λ (l : L) all m list. right all m list) (λ (l : L) all m list verdict. verdict ≡ right all m list) is_refused (Some loads) (Some all) m rows
    → cyclic_line all.graph m ≡ None → slice_get all.list m ≡ Some s → s.state ≡ source.Tree tree
    → ((decision : Verdict) → IsRight (known_in (names_of all.list) (as_list rows)) s.name m (module_of tree) decision → decision ≡ v)
    → v ≡ right all m (needs (rules_of (λ (l : L) all m list. right all m list) is_refused loads all) m)
tree_right {L} loads all m rows s tree v gathered loose there is only =
    let known = known_in (names_of all.list) (as_list rows) in
    let same = known_same (names_of all.list) (as_list rows) (needs (rules_of (λ (l : L) all m list. right all m list) is_refused loads all) m) (gathered_at (λ (v : Verdict). v) (λ (l : L) all m list. right all m list) (λ (l : L) all m list verdict. verdict ≡ right all m list) is_refused (λ l all m list v h. h) loads all m rows gathered) in
    let over_rows : right all m (as_list rows) ≡ v =
    ap (λ (line : Option ℕ). unless_cyclic line (right_of_source known m (slice_get all.list m))) loose
    ∙ ap (right_of_source known m) there
    ∙ ap (λ (state : SourceState). right_of_state known s.name m (state_of state)) is
    ∙ only (right_of_tree known s.name m (module_of tree)) (right_one known s.name m (module_of tree)) in
    sym over_rows ∙ (λ i. unless_cyclic (cyclic_line all.graph m) (right_of_source (λ name. same name i) m (slice_get all.list m)))

-- ---- what its rows are

row_has : (rows : List (Import Verdict)) (k : ℕ) (row : Import Verdict) → slice_get rows k ≡ Some row → has_row rows row.module ≡ true
row_has [] k row h = absurd cc
row_has (r ∷ rows) zero row h =
    let same : r ≡ row = cc (h) in
    let here : (row.module == row.module) ≡ true = grind (arith, nat_tests) in
    ap (λ (x : Import Verdict). (x.module == row.module) || has_row rows row.module) same ∙ ap (λ b. b || has_row rows row.module) here
row_has (r ∷ rows) (suc k) row h = ap (λ b. (r.module == row.module) || b) (row_has rows k row h) ∙ or_true (r.module == row.module)
  where
    or_true : (b : Bool) → (b || true) ≡ true
    or_true true = refl
    or_true false = refl

need_within : (rows : Rows) (m n : ℕ) → has n (need_of rows m) ≡ true → n < count rows
unfolding need_of reached_of
need_within rows m n h = subst (λ (c : ℕ). n < c) (length-cut rows) (has_those (reaches (cut rows) m) (length (cut rows)) n h).0

-- each row is of a module
pub rows_within : {L : Type 0} (loads : L) (all : Sources Source) (m : ℕ) (rows : List (Import Verdict))
    → Gathers (λ (l : L) all m list. right all m list) (λ (l : L) all m list verdict. verdict ≡ right all m list) is_refused (Some loads) (Some all) m rows
    → (k : ℕ) (row : Import Verdict) → slice_get rows k ≡ Some row → row.module < count all.graph
rows_within {L} loads all m rows gathered k row there =
    need_within all.graph m row.module
    (sym (gathered_has (λ (l : L) all m list. right all m list) (λ (l : L) all m list verdict. verdict ≡ right all m list) is_refused loads all m rows gathered row.module) ∙ row_has rows k row there)
