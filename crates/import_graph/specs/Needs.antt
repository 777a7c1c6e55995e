-- What holds of the needs of every graph, over plain functions.
use Rattle.std.specs.Prelude.{◌≡◌, ◌⊎◌, ℕ, ◌<◌, ◌≤◌, Bool, true, false, List, [], length}
use Rattle.import_graph.specs.Graph.{Rows, has}
use Rattle.import_graph.specs.Closure.{count, direct_of, need_of, is_cyclic}

pub record IsNeed (count : ℕ) (direct need : ℕ → List ℕ) (is_cyclic : ℕ → Bool) : Type 0 where
  pub of_cyclic : (m : ℕ) → is_cyclic m ≡ true → need m ≡ []
  pub within : (m n : ℕ) → has n (direct m) ≡ true → n < count
  pub short : (m : ℕ) → length (need m) ≤ count
  pub falls : (m n : ℕ) → has n (need m) ≡ true → length (need n) < length (need m)
  pub direct_in : (m d : ℕ) → is_cyclic m ≡ false → has d (direct m) ≡ true → has d (need m) ≡ true
  pub by_way : (m n : ℕ) → has n (need m) ≡ true
      → (has n (direct m) ≡ true) ⊎ ((d : ℕ) × (has d (direct m) ≡ true) × (is_cyclic d ≡ false) × (has n (need d) ≡ true))

-- of the graph of these rows
abbrev pub HasNeeds : Rows → Type 0
HasNeeds rows = IsNeed (count rows) (direct_of rows) (need_of rows) (is_cyclic rows)

-- m is cyclic, or its direct imports are decided
abbrev pub IsReady : (direct : ℕ → List ℕ) (is_cyclic is_decided : ℕ → Bool) → ℕ → Type 0
IsReady direct is_cyclic is_decided m = is_cyclic m ≡ false → (d : ℕ) → has d (direct m) ≡ true → is_decided d ≡ true

-- where this is so of all that is decided, and of m, the need of m is decided
abbrev pub DecidesNeeds : (direct need : ℕ → List ℕ) (is_cyclic : ℕ → Bool) → Type 0
DecidesNeeds direct need is_cyclic =
    (is_decided : ℕ → Bool) → ((m : ℕ) → is_decided m ≡ true → IsReady direct is_cyclic is_decided m)
    → (m : ℕ) → IsReady direct is_cyclic is_decided m → (n : ℕ) → has n (need m) ≡ true → is_decided n ≡ true
