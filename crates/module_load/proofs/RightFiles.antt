-- What is right depends on the files alone, and what is known is known of each module that is named.
use Rattle.std.proofs.Common.{◌≡◌, ◌<◌, ◌||◌, ◌==◌, ℕ, zero, suc, Bool, true, false, cond, List, [], ◌∷◌, length, Option, Some, None, slice_get, nat_lt, refl, sym, ap, subst, ◌∙◌, arith}
use Rattle.std.specs.List.{cons_option, filter_map, find, list_any, position, position_or_len}
use Rattle.std.specs.Option.{option_map}
use Rattle.std.specs.Str.{bytes_eq}
use Rattle.std.proofs.lemmas.Bool.{eqb-true, eqb-false, ltb-true}
use Rattle.std.proofs.lemmas.List.{length-map}
use Rattle.std.proofs.lemmas.Option.{get_or_from_slice_get, slice_get-map}
use Rattle.py_tree.specs.Syntax.{Text, Statements}
use Rattle.import_graph.specs.declared.imports.ImportRow.{ImportRow}
use Rattle.import_graph.specs.declared.rows.DirectImport.{DirectImport}
use Rattle.import_graph.specs.Closure.{cyclic_line, is_cyclic, need_of}
use Rattle.import_graph.specs.Graph.{Rows, has, imports, row_of}
use Rattle.import_graph.specs.Imports.{import_rows}
use Rattle.import_graph.specs.World.{with_each}
use Rattle.import_graph.proofs.Bools.{not_false}
use Rattle.import_graph.proofs.ByChains.{cyclic_is}
use Rattle.import_graph.proofs.NeedLaws.{direct_has, has_needs}
use Rattle.registry_core.specs.declared.sources.Sources.{Sources}
use Rattle.module_load.specs.declared.source.Source.{Source}
use Rattle.module_load.specs.declared.verdict.Verdict.{Verdict}
use Rattle.module_load.specs.Decisions.{Decisions}
use Rattle.module_load.specs.Folders.{direct_import, direct_imports, graph_of, names_of, states_of}
use Rattle.module_load.specs.Right.{KnownExactly, RightOfFiles, decided, decided_of, known_in, right_of_source, right_of_state, unless_cyclic}
use Rattle.module_load.specs.Sources.{State, state_of, tree}
use Rattle.module_load.proofs.Folders.{at, one_folder}

-- ---- the files alone

same_source : (known : Decisions) (m : ℕ) (a b : List Source) (k : ℕ) → names_of a ≡ names_of b → states_of a ≡ states_of b → right_of_source known m (slice_get a k) ≡ right_of_source known m (slice_get b k)
same_source known m [] [] k n s = refl
same_source known m [] (y ∷ b) k n s = absurd cc
same_source known m (x ∷ a) [] k n s = absurd cc
same_source known m (x ∷ a) (y ∷ b) zero n s =
    let name : x.name ≡ y.name = cc (n) in
    let state : state_of x.state ≡ state_of y.state = cc (s) in
    ap (λ (t : Text). right_of_state known t m (state_of x.state)) name ∙ ap (right_of_state known y.name m) state
same_source known m (x ∷ a) (y ∷ b) (suc k) n s =
    let names : names_of a ≡ names_of b = cc (n) in
    let states : states_of a ≡ states_of b = cc (s) in
    same_source known m a b k names states

pub right_of_files : RightOfFiles
right_of_files files a b h g m list =
    let same = one_folder files a b h g in
    let known = known_in (names_of b.list) list in
    ap (λ (graph : Rows). unless_cyclic (cyclic_line graph m) (right_of_source (known_in (names_of a.list) list) m (slice_get a.list m))) same.2
    ∙ ap (λ (names : List Text). unless_cyclic (cyclic_line b.graph m) (right_of_source (known_in names list) m (slice_get a.list m))) same.0
    ∙ ap (unless_cyclic (cyclic_line b.graph m)) (same_source known m a.list b.list m same.0 same.1)

-- ---- the verdict of a number

one_found : (verdict : ℕ → Verdict) (rest : List (ℕ × Verdict)) (k n : ℕ) (t : Bool) → (k == n) ≡ t → (t ≡ false → decided rest n ≡ Some (verdict n))
    → option_map (λ (row : ℕ × Verdict). row.1) (cond t (Some (k, verdict k)) (find (λ (row : ℕ × Verdict). row.0 == n) rest)) ≡ Some (verdict n)
one_found verdict rest k n true e h = ap (λ (j : ℕ). Some (verdict j)) (eqb-true k n e)
one_found verdict rest k n false e h = h refl

elsewhere : (n k : ℕ) (rest : Bool) → (k == n) ≡ false → (n == k) || rest ≡ true → rest ≡ true
elsewhere n k rest e h = by (n == k) refl h
  where
    by : (t : Bool) → (n == k) ≡ t → t || rest ≡ true → rest ≡ true
    by true ea h = let l = eqb-true n k ea in let m = eqb-false k n e in absurd (omega (arith, l, m))
    by false ea h = h

decided_each : (verdict : ℕ → Verdict) (ns : List ℕ) (n : ℕ) → has n ns ≡ true → decided (with_each verdict ns) n ≡ Some (verdict n)
decided_each verdict [] n h = absurd cc
decided_each verdict (k ∷ ns) n h = one_found verdict (with_each verdict ns) k n (k == n) refl (λ e. decided_each verdict ns n (elsewhere n k (has n ns) e h))

-- ---- each module that is named is needed

same_number : (n : ℕ) → (n == n) ≡ true
same_number n = by (n == n) refl
  where
    by : (t : Bool) → (n == n) ≡ t → t ≡ true
    by true e = refl
    by false e = absurd (eqb-false n n e refl)

or_true : (p q : Bool) → q ≡ true → (p || q) ≡ true
or_true true q e = refl
or_true false q e = e

abbrev is_at : ℕ → DirectImport → Bool
is_at n i = i.module == n

any_behind : (n : ℕ) (o : Option DirectImport) (rest : List DirectImport) → list_any (is_at n) rest ≡ true → list_any (is_at n) (cons_option o rest) ≡ true
any_behind n None rest h = h
any_behind n (Some d) rest h = or_true (is_at n d) (list_any (is_at n) rest) h

found_import : (names : List Text) (rows : List ImportRow) (k : ℕ) (row : ImportRow) (n : ℕ) → slice_get rows k ≡ Some row → position (bytes_eq row.module) names ≡ Some n
    → list_any (is_at n) (filter_map (direct_import names) rows) ≡ true
found_import names [] k row n h e = absurd cc
found_import names (r ∷ rest) zero row n h e =
    let same : r ≡ row = cc (h) in
    let here : position (bytes_eq r.module) names ≡ Some n = subst (λ (x : ImportRow). position (bytes_eq x.module) names ≡ Some n) (sym same) e in
    let more = filter_map (direct_import names) rest in
    ap (λ (o : Option ℕ). list_any (is_at n) (cons_option (option_map (at r.line) o) more)) here ∙ ap (λ (b : Bool). b || list_any (is_at n) more) (same_number n)
found_import names (r ∷ rest) (suc k) row n h e = any_behind n (direct_import names r) (filter_map (direct_import names) rest) (found_import names rest k row n h e)

within : (count place n : ℕ) (b : Bool) → nat_lt place count ≡ b → cond b (Some place) None ≡ Some n → n < count
within count place n true e h = let same : place ≡ n = cc (h) in subst (λ (k : ℕ). k < count) same (ltb-true place count e)
within count place n false e h = absurd cc

place_within : (p : Text → Bool) (names : List Text) (n : ℕ) → position p names ≡ Some n → n < length names
place_within p names n h = within (length names) (position_or_len p names) n (nat_lt (position_or_len p names) (length names)) refl h

-- the row of a tree
row_is : (list : List Source) (m : ℕ) (source : Source) (body : Statements) → slice_get list m ≡ Some source → state_of source.state ≡ tree body
    → row_of (graph_of list) m ≡ filter_map (direct_import (names_of list)) (import_rows body)
row_is list m source body there is =
    let state : slice_get (states_of list) m ≡ Some (tree body) = slice_get-map (λ (s : Source). state_of s.state) list m ∙ ap (option_map (λ (s : Source). state_of s.state)) there ∙ ap (λ (s : State). Some s) is in
    let row : slice_get (graph_of list) m ≡ Some (direct_imports (names_of list) (tree body)) = slice_get-map (direct_imports (names_of list)) (states_of list) m ∙ ap (option_map (direct_imports (names_of list))) state in
    get_or_from_slice_get (graph_of list) m (direct_imports (names_of list) (tree body)) [] row

as_many : (list : List Source) → length (graph_of list) ≡ length (names_of list)
as_many list = length-map (states_of list) (direct_imports (names_of list)) ∙ length-map list (λ (s : Source). state_of s.state) ∙ sym (length-map list (λ (s : Source). s.name))

needed : (all : Sources Source) (m n k : ℕ) (source : Source) (body : Statements) (row : ImportRow) → all.graph ≡ graph_of all.list → is_cyclic all.graph m ≡ false
    → slice_get all.list m ≡ Some source → state_of source.state ≡ tree body → slice_get (import_rows body) k ≡ Some row → position (bytes_eq row.module) (names_of all.list) ≡ Some n
    → has n (need_of all.graph m) ≡ true
needed all m n k source body row graph loose there is at_row number =
    let names = names_of all.list in
    let few : n < length all.graph = subst (λ (c : ℕ). n < c) (sym (ap length graph ∙ as_many all.list)) (place_within (bytes_eq row.module) names n number) in
    let of_row : row_of all.graph m ≡ filter_map (direct_import names) (import_rows body) = ap (λ (g : Rows). row_of g m) graph ∙ row_is all.list m source body there is in
    let imported : imports all.graph m n ≡ true = ap (list_any (is_at n)) of_row ∙ found_import names (import_rows body) k row n at_row number in
    (has_needs all.graph).direct_in m n loose (direct_has all.graph m n few imported)

pub known_exactly : KnownExactly
known_exactly files all verdict m source body k row h loose there is at_row = by (position (bytes_eq row.module) (names_of all.list)) refl
  where
    by : (o : Option ℕ) → position (bytes_eq row.module) (names_of all.list) ≡ o → decided_of (with_each verdict (need_of all.graph m)) o ≡ option_map verdict o
    by None e = refl
    by (Some n) e =
        let away : is_cyclic all.graph m ≡ false = not_false (is_cyclic all.graph m) (λ c. loose ((cyclic_is all.graph m).0 c)) in
        decided_each verdict (need_of all.graph m) n (needed all m n k source body row h.graph away there is at_row e)
