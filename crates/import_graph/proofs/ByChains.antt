-- The lists of a graph, and the line of a cyclic module, by chains.
use Rattle.std.proofs.Common.{◌≡◌, ◌==◌, ◌⊎◌, ◌↔◌, ℕ, zero, suc, ◌<◌, Bool, true, false, cond, List, [], ◌∷◌, length, Option, Some, None, MatchOption, nat_lt, refl, sym, subst, ⊎_elim, inl, inr, arith}
use Rattle.std.specs.List.{list_all, list_any}
use Rattle.std.proofs.lemmas.Bool.Decides.{nat_tests}
use Rattle.import_graph.specs.declared.rows.DirectImport.{DirectImport}
use Rattle.import_graph.specs.Graph.{Rows, row_of, is_graph, imports, Reaches, IsCyclic, IsRefusedAt, Needs, LeadsBackAt, IsListOf}
use Rattle.import_graph.specs.Graph.Reaches.{one_import, first_import}
use Rattle.import_graph.specs.Graph.LeadsBackAt.{this_import, later_import}
use Rattle.import_graph.specs.Closure.{reaches, cut, direct_of, reached_of, need_of, line_back, cyclic_line}
use Rattle.import_graph.proofs.Bools.{and_left, and_right, or_cases, or_left, or_right, not_both}
use Rattle.import_graph.proofs.Chains.{reaches_chain, chain_reaches}
use Rattle.import_graph.proofs.Listed.{those_list}
use Rattle.import_graph.proofs.Cuts.{length-cut, cut_needs, needs_cut, meets_chain}

-- all imports of a row name modules
pub row_all : (count : ℕ) (rows : Rows) (m : ℕ) → list_all (list_all (λ i. nat_lt i.module count)) rows ≡ true → list_all (λ (i : DirectImport). nat_lt i.module count) (row_of rows m) ≡ true
row_all count [] m h = refl
row_all count (row ∷ rest) zero h = and_left (list_all (λ i. nat_lt i.module count) row) _ h
row_all count (row ∷ rest) (suc m) h = row_all count rest m (and_right (list_all (λ i. nat_lt i.module count) row) (list_all (list_all (λ i. nat_lt i.module count)) rest) h)

named_within : (count n : ℕ) (row : List DirectImport) → list_all (λ i. nat_lt i.module count) row ≡ true → list_any (λ i. i.module == n) row ≡ true → n < count
named_within count n [] all h = absurd cc
named_within count n (i ∷ rest) all h =
    ⊎_elim
    (λ (a : (i.module == n) ≡ true). at i.module (and_left (nat_lt i.module count) _ all) a)
    (λ (b : list_any (λ i. i.module == n) rest ≡ true). named_within count n rest (and_right (nat_lt i.module count) (list_all (λ i. nat_lt i.module count) rest) all) b)
    (or_cases (i.module == n) (list_any (λ i. i.module == n) rest) h)
  where
    at : (k : ℕ) → nat_lt k count ≡ true → (k == n) ≡ true → n < count
    at k a b = grind (arith, nat_tests)

pub import_within : (rows : Rows) → is_graph rows ≡ true → (m n : ℕ) → imports rows m n ≡ true → n < length rows
import_within rows all m n h = named_within (length rows) n (row_of rows m) (row_all (length rows) rows m all) h

pub reach_within : (rows : Rows) → is_graph rows ≡ true → (m n : ℕ) → Reaches rows m n → n < length rows
reach_within rows all m n (one_import a b i) = import_within rows all a b i
reach_within rows all m n (first_import a k b i rest) = reach_within rows all k b rest

pub direct_list : (rows : Rows) → is_graph rows ≡ true → (m : ℕ) → IsListOf (λ n. imports rows m n ≡ true) (direct_of rows m)
unfolding direct_of
direct_list rows all m = those_list (imports rows m) (length rows) (λ n. imports rows m n ≡ true) (λ n h. h) (λ n h. (import_within rows all m n h, h))

pub reached_list : (rows : Rows) → is_graph rows ≡ true → (m : ℕ) → IsListOf (Reaches rows m) (reached_of rows m)
unfolding reached_of
reached_list rows all m = those_list (reaches rows m) (length rows) (Reaches rows m) (λ n h. reaches_chain rows m n h) (λ n h. (reach_within rows all m n h, chain_reaches rows m n h))

pub need_list : (rows : Rows) → is_graph rows ≡ true → (m : ℕ) → IsListOf (Needs rows m) (need_of rows m)
unfolding need_of reached_of
need_list rows all m =
    those_list (reaches (cut rows) m) (length (cut rows)) (Needs rows m) (λ n h. cut_needs rows m n (reaches_chain (cut rows) m n h))
    (λ n h. (subst (λ (c : ℕ). n < c) (sym (length-cut rows)) (reach_within rows all m n (meets_chain rows m n h.meets)), chain_reaches (cut rows) m n (needs_cut rows m n h)))

-- the line of a row's first import that leads back, if one does
pub line_back_is : (rows : Rows) (m : ℕ) (row : List DirectImport)
    → MatchOption (line_back rows m row) ((k : ℕ) → list_any (λ i. i.module == k) row ≡ true → ¬ Reaches rows k m) (λ line. LeadsBackAt rows m row line × ((k : ℕ) × (list_any (λ i. i.module == k) row ≡ true) × Reaches rows k m))
line_back_is rows m [] = λ k h. absurd cc
line_back_is rows m (i ∷ rest) = by (reaches rows i.module m) refl (line_back rows m rest) (line_back_is rows m rest)
  where
    itself : (k : ℕ) → (k == k) ≡ true
    itself k = grind (arith, nat_tests)

    same : (j k : ℕ) → (j == k) ≡ true → j ≡ k
    same j k h = grind (arith, nat_tests)

    later : (o : Option ℕ) → ¬ Reaches rows i.module m
        → MatchOption o ((k : ℕ) → list_any (λ i. i.module == k) rest ≡ true → ¬ Reaches rows k m) (λ line. LeadsBackAt rows m rest line × ((k : ℕ) × (list_any (λ i. i.module == k) rest ≡ true) × Reaches rows k m))
        → MatchOption o ((k : ℕ) → list_any (λ i. i.module == k) (i ∷ rest) ≡ true → ¬ Reaches rows k m) (λ line. LeadsBackAt rows m (i ∷ rest) line × ((k : ℕ) × (list_any (λ i. i.module == k) (i ∷ rest) ≡ true) × Reaches rows k m))
    later None away h = λ k named back. ⊎_elim
        (λ (a : (i.module == k) ≡ true). away (subst (λ (x : ℕ). Reaches rows x m) (sym (same i.module k a)) back))
        (λ (b : list_any (λ i. i.module == k) rest ≡ true). h k b back)
        (or_cases (i.module == k) (list_any (λ i. i.module == k) rest) named)
    later (Some line) away h = (later_import i rest line away h.0, (h.1.0, or_right (i.module == h.1.0) (list_any (λ j. j.module == h.1.0) rest) h.1.1, h.1.2))

    by : (b : Bool) → reaches rows i.module m ≡ b → (o : Option ℕ)
        → MatchOption o ((k : ℕ) → list_any (λ i. i.module == k) rest ≡ true → ¬ Reaches rows k m) (λ line. LeadsBackAt rows m rest line × ((k : ℕ) × (list_any (λ i. i.module == k) rest ≡ true) × Reaches rows k m))
        → MatchOption (cond b (Some i.line) o) ((k : ℕ) → list_any (λ i. i.module == k) (i ∷ rest) ≡ true → ¬ Reaches rows k m) (λ line. LeadsBackAt rows m (i ∷ rest) line × ((k : ℕ) × (list_any (λ i. i.module == k) (i ∷ rest) ≡ true) × Reaches rows k m))
    by true e o h = let back = reaches_chain rows i.module m e in (this_import i rest back, (i.module, or_left (i.module == i.module) _ (itself i.module), back))
    by false e o h = later o (λ back. not_both (reaches rows i.module m) e (chain_reaches rows i.module m back)) h

-- a cyclic module imports one that leads back
pub leads_back : (rows : Rows) (m n : ℕ) → Reaches rows m n → (k : ℕ) × (imports rows m k ≡ true) × ((k ≡ n) ⊎ Reaches rows k n)
leads_back rows m n (one_import a b i) = (b, i, inl refl)
leads_back rows m n (first_import a k b i rest) = (k, i, inr rest)

pub cyclic_line_is : (rows : Rows) (m : ℕ) → IsRefusedAt rows m (cyclic_line rows m)
unfolding cyclic_line
cyclic_line_is rows m = by (line_back rows m (row_of rows m)) (line_back_is rows m (row_of rows m))
  where
    by : (o : Option ℕ)
        → MatchOption o ((k : ℕ) → imports rows m k ≡ true → ¬ Reaches rows k m) (λ line. LeadsBackAt rows m (row_of rows m) line × ((k : ℕ) × (imports rows m k ≡ true) × Reaches rows k m))
        → IsRefusedAt rows m o
    by None h = λ cycle. let r = leads_back rows m m cycle in
        ⊎_elim (λ (e : r.0 ≡ m). h r.0 r.1 (subst (λ (x : ℕ). Reaches rows x m) (sym e) cycle)) (λ (b : Reaches rows r.0 m). h r.0 r.1 b) r.2
    by (Some line) h = (first_import m h.1.0 m h.1.1 h.1.2, h.0)

pub cyclic_is : (rows : Rows) (m : ℕ) → (reaches rows m m ≡ true) ↔ IsCyclic rows m
cyclic_is rows m = (λ h. reaches_chain rows m m h, λ h. chain_reaches rows m m h)
