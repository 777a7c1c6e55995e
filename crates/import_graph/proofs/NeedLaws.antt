-- The laws of a need hold of every graph.
use Rattle.std.proofs.Common.{◌≡◌, ◌⊎◌, ℕ, ◌<◌, ◌≤◌, true, false, [], length, inl, inr, arith}
use Rattle.import_graph.specs.Graph.{Rows, imports, Reaches, has}
use Rattle.import_graph.specs.Graph.Reaches.{one_import, first_import}
use Rattle.import_graph.specs.Closure.{reaches, is_cyclic, cut, direct_of, reached_of, need_of}
use Rattle.import_graph.specs.Needs.{HasNeeds}
use Rattle.import_graph.proofs.Bools.{not_false}
use Rattle.import_graph.proofs.Chains.{chain_join, reaches_chain, chain_reaches, reaches_module}
use Rattle.import_graph.proofs.Listed.{has_those, those_has, length-those, those_less, those_none}
use Rattle.import_graph.proofs.Cuts.{length-cut, cut_imports, imports_cut, cut_needs, meets_chain}

pub has_direct : (rows : Rows) (m n : ℕ) → has n (direct_of rows m) ≡ true → (n < length rows) × (imports rows m n ≡ true)
unfolding direct_of
has_direct rows m n h = has_those (imports rows m) (length rows) n h

pub direct_has : (rows : Rows) (m n : ℕ) → n < length rows → imports rows m n ≡ true → has n (direct_of rows m) ≡ true
unfolding direct_of
direct_has rows m n l h = those_has (imports rows m) (length rows) n l h

pub has_need : (rows : Rows) (m n : ℕ) → has n (need_of rows m) ≡ true → (n < length rows) × Reaches (cut rows) m n
unfolding need_of reached_of
has_need rows m n h = let r = has_those (reaches (cut rows) m) (length (cut rows)) n h in (omega (arith, r.0, length-cut rows), reaches_chain (cut rows) m n r.1)

pub need_has : (rows : Rows) (m n : ℕ) → n < length rows → Reaches (cut rows) m n → has n (need_of rows m) ≡ true
unfolding need_of reached_of
need_has rows m n l h = those_has (reaches (cut rows) m) (length (cut rows)) n (omega (arith, l, length-cut rows)) (chain_reaches (cut rows) m n h)

of_cyclic : (rows : Rows) (m : ℕ) → is_cyclic rows m ≡ true → need_of rows m ≡ []
unfolding need_of reached_of
of_cyclic rows m h = those_none (reaches (cut rows) m) (length (cut rows)) (λ n. not_false (reaches (cut rows) m n) (λ e. (cut_needs rows m n (reaches_chain (cut rows) m n e)).not_cyclic (reaches_chain rows m m h)))

short : (rows : Rows) (m : ℕ) → length (need_of rows m) ≤ length rows
unfolding need_of reached_of
short rows m = omega (arith, length-those (reaches (cut rows) m) (length (cut rows)), length-cut rows)

-- nothing needs itself
not_itself : (rows : Rows) (n : ℕ) → reaches (cut rows) n n ≡ false
not_itself rows n = not_false (reaches (cut rows) n n) (λ e. let h = cut_needs rows n n (reaches_chain (cut rows) n n e) in h.not_cyclic (meets_chain rows n n h.meets))

falls : (rows : Rows) (m n : ℕ) → has n (need_of rows m) ≡ true → length (need_of rows n) < length (need_of rows m)
unfolding need_of reached_of
falls rows m n h =
    let r = has_those (reaches (cut rows) m) (length (cut rows)) n h in
    those_less (reaches (cut rows) n) (reaches (cut rows) m) (length (cut rows))
    (λ k e. chain_reaches (cut rows) m k (chain_join (cut rows) m n k (reaches_chain (cut rows) m n r.1) (reaches_chain (cut rows) n k e)))
    n r.0 (not_itself rows n) r.1

direct_in : (rows : Rows) (m d : ℕ) → is_cyclic rows m ≡ false → has d (direct_of rows m) ≡ true → has d (need_of rows m) ≡ true
direct_in rows m d c h = let r = has_direct rows m d h in need_has rows m d r.0 (one_import m d (imports_cut rows m d c r.1))

by_way : (rows : Rows) (m n : ℕ) → has n (need_of rows m) ≡ true
    → (has n (direct_of rows m) ≡ true) ⊎ ((d : ℕ) × (has d (direct_of rows m) ≡ true) × (is_cyclic rows d ≡ false) × (has n (need_of rows d) ≡ true))
by_way rows m n h = let r = has_need rows m n h in by rows m n r.0 r.1
  where
    first_not_cyclic : (rows : Rows) (m n : ℕ) → Reaches (cut rows) m n → is_cyclic rows m ≡ false
    first_not_cyclic rows m n (one_import a b i) = (cut_imports rows a b i).0
    first_not_cyclic rows m n (first_import a k b i rest) = (cut_imports rows a k i).0

    by : (rows : Rows) (m n : ℕ) → n < length rows → Reaches (cut rows) m n
        → (has n (direct_of rows m) ≡ true) ⊎ ((d : ℕ) × (has d (direct_of rows m) ≡ true) × (is_cyclic rows d ≡ false) × (has n (need_of rows d) ≡ true))
    by rows m n l (one_import a b i) = inl (direct_has rows a b l (cut_imports rows a b i).1)
    by rows m n l (first_import a k b i rest) =
        inr (k, direct_has rows a k (omega (arith, reaches_module (cut rows) k b rest, length-cut rows)) (cut_imports rows a k i).1, first_not_cyclic rows k b rest, need_has rows k b l rest)

pub has_needs : (rows : Rows) → HasNeeds rows
has_needs rows = record {
  of_cyclic = of_cyclic rows;
  within = λ m n h. (has_direct rows m n h).0;
  short = short rows;
  falls = falls rows;
  direct_in = direct_in rows;
  by_way = by_way rows;
}
