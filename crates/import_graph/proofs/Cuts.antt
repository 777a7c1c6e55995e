-- The need is what is reached where cyclic modules import nothing.
use Rattle.std.proofs.Common.{◌≡◌, ◌==◌, ℕ, zero, suc, ◌+◌, Bool, true, false, cond, List, [], ◌∷◌, length, refl, sym, ap, ◌∙◌, subst, arith}
use Rattle.std.specs.List.{list_any}
use Rattle.import_graph.specs.declared.rows.DirectImport.{DirectImport}
use Rattle.import_graph.specs.Graph.{Rows, row_of, imports, Reaches, IsCyclic, Meets, Needs}
use Rattle.import_graph.specs.Graph.Reaches.{one_import, first_import}
use Rattle.import_graph.specs.Graph.Meets.{meets_import, meets_through}
use Rattle.import_graph.specs.Closure.{is_cyclic, cut_from, cut}
use Rattle.import_graph.proofs.Bools.{not_false, not_both}
use Rattle.import_graph.proofs.Chains.{reaches_chain, chain_reaches}

row_cut_from : (rows : Rows) (from m : ℕ) (rest : Rows) → row_of (cut_from rows from rest) m ≡ cond (is_cyclic rows (from + m)) [] (row_of rest m)
row_cut_from rows from m [] = by (is_cyclic rows (from + m))
  where
    by : (b : Bool) → row_of [] m ≡ cond b [] (row_of [] m)
    by true = refl
    by false = refl
row_cut_from rows from zero (row ∷ rest) = ap (λ (k : ℕ). cond (is_cyclic rows k) [] row) (plus_zero from)
  where
    plus_zero : (k : ℕ) → k ≡ k + zero
    plus_zero k = omega arith
row_cut_from rows from (suc m) (row ∷ rest) = row_cut_from rows (suc from) m rest ∙ ap (λ (k : ℕ). cond (is_cyclic rows k) [] (row_of rest m)) (plus_suc from m)
  where
    plus_suc : (k j : ℕ) → suc k + j ≡ k + suc j
    plus_suc k j = omega arith

pub row_cut : (rows : Rows) (m : ℕ) → row_of (cut rows) m ≡ cond (is_cyclic rows m) [] (row_of rows m)
unfolding cut
row_cut rows m = row_cut_from rows zero m rows ∙ ap (λ (k : ℕ). cond (is_cyclic rows k) [] (row_of rows m)) (zero_plus m)
  where
    zero_plus : (k : ℕ) → zero + k ≡ k
    zero_plus k = omega arith

length-cut_from : (rows : Rows) (from : ℕ) (rest : Rows) → length (cut_from rows from rest) ≡ length rest
length-cut_from rows from [] = refl
length-cut_from rows from (row ∷ rest) = omega (arith, length-cut_from rows (suc from) rest)

pub length-cut : (rows : Rows) → length (cut rows) ≡ length rows
unfolding cut
length-cut rows = length-cut_from rows zero rows

-- an import that is left is one of a module that isn't cyclic
pub cut_imports : (rows : Rows) (m n : ℕ) → imports (cut rows) m n ≡ true → (is_cyclic rows m ≡ false) × (imports rows m n ≡ true)
cut_imports rows m n h = by (is_cyclic rows m) refl (subst (λ (row : List DirectImport). list_any (λ i. i.module == n) row ≡ true) (row_cut rows m) h)
  where
    by : (b : Bool) → is_cyclic rows m ≡ b → list_any (λ i. i.module == n) (cond b [] (row_of rows m)) ≡ true → (is_cyclic rows m ≡ false) × (imports rows m n ≡ true)
    by true e h = absurd cc
    by false e h = (e, h)

pub imports_cut : (rows : Rows) (m n : ℕ) → is_cyclic rows m ≡ false → imports rows m n ≡ true → imports (cut rows) m n ≡ true
imports_cut rows m n c h =
    subst (λ (row : List DirectImport). list_any (λ i. i.module == n) row ≡ true) (sym (row_cut rows m))
    (subst (λ (b : Bool). list_any (λ i. i.module == n) (cond b [] (row_of rows m)) ≡ true) (sym c) h)

pub cyclic_test : (rows : Rows) (m : ℕ) → ¬ IsCyclic rows m → is_cyclic rows m ≡ false
cyclic_test rows m h = not_false (is_cyclic rows m) (λ e. h (reaches_chain rows m m e))

pub not_cyclic : (rows : Rows) (m : ℕ) → is_cyclic rows m ≡ false → ¬ IsCyclic rows m
not_cyclic rows m e h = not_both (is_cyclic rows m) e (chain_reaches rows m m h)

-- what is reached after the cut is needed
pub cut_needs : (rows : Rows) (m n : ℕ) → Reaches (cut rows) m n → Needs rows m n
cut_needs rows m n (one_import a b i) = let r = cut_imports rows a b i in record { not_cyclic = not_cyclic rows a r.0; meets = meets_import a b r.1 }
cut_needs rows m n (first_import a c b i rest) =
    let r = cut_imports rows a c i in
    let more = cut_needs rows c b rest in
    record { not_cyclic = not_cyclic rows a r.0; meets = meets_through a c b r.1 more.not_cyclic more.meets }

meets_cut : (rows : Rows) (m n : ℕ) → ¬ IsCyclic rows m → Meets rows m n → Reaches (cut rows) m n
meets_cut rows m n c (meets_import a b i) = one_import a b (imports_cut rows a b (cyclic_test rows a c) i)
meets_cut rows m n c (meets_through a k b i d rest) = first_import a k b (imports_cut rows a k (cyclic_test rows a c) i) (meets_cut rows k b d rest)

pub needs_cut : (rows : Rows) (m n : ℕ) → Needs rows m n → Reaches (cut rows) m n
needs_cut rows m n h = meets_cut rows m n h.not_cyclic h.meets

-- what is met is reached
pub meets_chain : (rows : Rows) (m n : ℕ) → Meets rows m n → Reaches rows m n
meets_chain rows m n (meets_import a b i) = one_import a b i
meets_chain rows m n (meets_through a k b i d rest) = first_import a k b i (meets_chain rows k b rest)
