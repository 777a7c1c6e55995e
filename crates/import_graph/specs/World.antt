-- The world: to each module the verdict that is right over the verdicts of its need.
use Rattle.std.specs.Prelude.{◌≡◌, ◌<◌, ℕ, zero, suc, Bool, List, [], ◌∷◌, length}
use Rattle.import_graph.specs.Graph.{Rows}
use Rattle.import_graph.specs.Closure.{direct_of, need_of, is_cyclic}

-- what there is to decide, by verdicts in D
pub record Rules (D : Type 0) : Type 0 where
  pub direct : ℕ → List ℕ
  pub need : ℕ → List ℕ
  pub is_cyclic : ℕ → Bool
  pub right : ℕ → List (ℕ × D) → D
  pub is_refused : D → Bool

-- the rules over the graph of these rows
abbrev pub rules_over : {D : Type 0} → Rows → (ℕ → List (ℕ × D) → D) → (D → Bool) → Rules D
rules_over rows right is_refused = record {
  direct = direct_of rows;
  need = need_of rows;
  is_cyclic = is_cyclic rows;
  right = right;
  is_refused = is_refused;
}

-- each module with its verdict
abbrev pub with_each : {D : Type 0} → (ℕ → D) → List ℕ → List (ℕ × D)
with_each verdict [] = []
with_each verdict (n ∷ ns) = (n, verdict n) ∷ with_each verdict ns

-- the assignment fits all modules: the verdict of each is right over those of its need
abbrev pub Fits : {D : Type 0} → Rules D → ℕ → (ℕ → D) → Type 0
Fits R count verdict = (m : ℕ) → m < count → verdict m ≡ R.right m (with_each verdict (R.need m))

-- the assignment that fits, down to a depth
unfoldable pub world_to : {D : Type 0} → Rules D → ℕ → ℕ → D
world_to R zero m = R.right m []
world_to R (suc k) m = R.right m (with_each (world_to R k) (R.need m))

-- the assignment that fits, by recursion on the length of the need
unfoldable pub world : {D : Type 0} → Rules D → ℕ → D
world R m = world_to R (suc (length (R.need m))) m

-- the verdicts of the need
abbrev pub needs : {D : Type 0} → Rules D → ℕ → List (ℕ × D)
needs R m = with_each (world R) (R.need m)
