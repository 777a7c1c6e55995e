-- Reach as a function is reach by chains.
use Rattle.std.proofs.Common.{◌≡◌, ◌⊎◌, ℕ, zero, suc, ◌<◌, ◌&&◌, true, [], ◌∷◌, length, subst, ⊎_elim, inl, inr, arith}
use Rattle.import_graph.specs.Graph.{Rows, imports, Reaches}
use Rattle.import_graph.specs.Graph.Reaches.{one_import, first_import}
use Rattle.import_graph.specs.Closure.{reaches_below, reaches}
use Rattle.import_graph.proofs.Bools.{and_left, and_right, and_both, or_cases, or_left, or_right}

-- one chain after another
pub chain_join : (rows : Rows) (m k n : ℕ) → Reaches rows m k → Reaches rows k n → Reaches rows m n
chain_join rows m k n (one_import a b i) after = first_import a b n i after
chain_join rows m k n (first_import a c b i rest) after = first_import a c n i (chain_join rows c b n rest after)

-- what is found by way of fewer modules is found
pub below_more : (rows : Rows) (k m n : ℕ) → reaches_below rows k m n ≡ true → reaches_below rows (suc k) m n ≡ true
unfolding reaches_below
below_more rows k m n h = or_left (reaches_below rows k m n) _ h

pub below_imports : (rows : Rows) (k m n : ℕ) → imports rows m n ≡ true → reaches_below rows k m n ≡ true
unfolding reaches_below
below_imports rows zero m n h = h
below_imports rows (suc k) m n h = or_left (reaches_below rows k m n) _ (below_imports rows k m n h)

-- by way of k
pub below_by : (rows : Rows) (k m n : ℕ) → reaches_below rows k m k ≡ true → reaches_below rows k k n ≡ true → reaches_below rows (suc k) m n ≡ true
unfolding reaches_below
below_by rows k m n a b = or_right (reaches_below rows k m n) _ (and_both (reaches_below rows k m k) (reaches_below rows k k n) a b)

-- the two cases of a chain by way of modules up to k
pub below_cases : (rows : Rows) (k m n : ℕ) → reaches_below rows (suc k) m n ≡ true
    → (reaches_below rows k m n ≡ true) ⊎ ((reaches_below rows k m k ≡ true) × (reaches_below rows k k n ≡ true))
unfolding reaches_below
below_cases rows k m n h =
    ⊎_elim (λ a. inl a)
    (λ b. inr (and_left (reaches_below rows k m k) (reaches_below rows k k n) b, and_right (reaches_below rows k m k) (reaches_below rows k k n) b))
    (or_cases (reaches_below rows k m n) (reaches_below rows k m k && reaches_below rows k k n) h)

-- from k itself, nothing is new
pub below_from : (rows : Rows) (k n : ℕ) → reaches_below rows (suc k) k n ≡ true → reaches_below rows k k n ≡ true
below_from rows k n h = ⊎_elim (λ a. a) (λ b. b.1) (below_cases rows k k n h)

pub below_to : (rows : Rows) (k m : ℕ) → reaches_below rows (suc k) m k ≡ true → reaches_below rows k m k ≡ true
below_to rows k m h = ⊎_elim (λ a. a) (λ b. b.0) (below_cases rows k m k h)

-- chains by way of modules below k join at each of these modules
pub below_join : (rows : Rows) (k m j n : ℕ) → j < k → reaches_below rows k m j ≡ true → reaches_below rows k j n ≡ true → reaches_below rows k m n ≡ true
below_join rows zero m j n below a b = absurd (omega arith)
below_join rows (suc k) m j n below a b =
    ⊎_elim
    (λ (e : j ≡ k). below_by rows k m n
    (below_to rows k m (subst (λ (x : ℕ). reaches_below rows (suc k) m x ≡ true) e a))
    (below_from rows k n (subst (λ (x : ℕ). reaches_below rows (suc k) x n ≡ true) e b)))
    (λ (l : j < k). four rows k m j n (λ x y. below_join rows k x j y l) (below_cases rows k m j a) (below_cases rows k j n b))
    (last_or_below j k below)
  where
    last_or_below : (j k : ℕ) → j < suc k → (j ≡ k) ⊎ (j < k)
    last_or_below j k h = grind arith

    four : (rows : Rows) (k m j n : ℕ) → ((x y : ℕ) → reaches_below rows k x j ≡ true → reaches_below rows k j y ≡ true → reaches_below rows k x y ≡ true)
        → (reaches_below rows k m j ≡ true) ⊎ ((reaches_below rows k m k ≡ true) × (reaches_below rows k k j ≡ true))
        → (reaches_below rows k j n ≡ true) ⊎ ((reaches_below rows k j k ≡ true) × (reaches_below rows k k n ≡ true))
        → reaches_below rows (suc k) m n ≡ true
    four rows k m j n join (inl a) (inl b) = below_more rows k m n (join m n a b)
    four rows k m j n join (inl a) (inr b) = below_by rows k m n (join m k a b.0) b.1
    four rows k m j n join (inr a) (inl b) = below_by rows k m n a.0 (join k n a.1 b)
    four rows k m j n join (inr a) (inr b) = below_by rows k m n a.0 b.1

none_below : (rows : Rows) (m n : ℕ) → reaches_below rows zero m n ≡ true → imports rows m n ≡ true
unfolding reaches_below
none_below rows m n h = h

-- what is found is reached
pub below_chain : (rows : Rows) (k m n : ℕ) → reaches_below rows k m n ≡ true → Reaches rows m n
below_chain rows zero m n h = one_import m n (none_below rows m n h)
below_chain rows (suc k) m n h =
    ⊎_elim (λ a. below_chain rows k m n a) (λ b. chain_join rows m k n (below_chain rows k m k b.0) (below_chain rows k k n b.1)) (below_cases rows k m n h)

-- a number that imports something is that of a module
pub imports_module : (rows : Rows) (m n : ℕ) → imports rows m n ≡ true → m < length rows
imports_module [] m n h = absurd cc
imports_module (row ∷ rest) zero n h = omega arith
imports_module (row ∷ rest) (suc m) n h = omega (arith, imports_module rest m n h)

pub reaches_module : (rows : Rows) (m n : ℕ) → Reaches rows m n → m < length rows
reaches_module rows m n (one_import a b i) = imports_module rows a b i
reaches_module rows m n (first_import a c b i rest) = imports_module rows a c i

-- what is reached is found
pub chain_below : (rows : Rows) (m n : ℕ) → Reaches rows m n → reaches_below rows (length rows) m n ≡ true
chain_below rows m n (one_import a b i) = below_imports rows (length rows) a b i
chain_below rows m n (first_import a c b i rest) =
    below_join rows (length rows) a c b (reaches_module rows c b rest) (below_imports rows (length rows) a c i) (chain_below rows c b rest)

pub reaches_chain : (rows : Rows) (m n : ℕ) → reaches rows m n ≡ true → Reaches rows m n
unfolding reaches
reaches_chain rows m n h = below_chain rows (length rows) m n h

pub chain_reaches : (rows : Rows) (m n : ℕ) → Reaches rows m n → reaches rows m n ≡ true
unfolding reaches
chain_reaches rows m n h = chain_below rows m n h
