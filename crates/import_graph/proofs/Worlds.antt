-- Decided needs, and the one assignment that fits, from the laws of a need.
use Rattle.std.proofs.Common.{◌≡◌, ◌==◌, ℕ, zero, suc, ◌<◌, Bool, true, false, List, [], ◌∷◌, length, refl, sym, ap, ◌∙◌, ⊎_elim, arith, true≢false}
use Rattle.std.proofs.lemmas.Bool.Decides.{nat_tests}
use Rattle.import_graph.specs.Graph.{has}
use Rattle.import_graph.specs.Needs.{IsNeed, IsReady, DecidesNeeds}
use Rattle.import_graph.specs.World.{Rules, with_each, Fits, world_to, world, needs}
use Rattle.import_graph.proofs.Bools.{or_right}

pub has_first : (x : ℕ) (xs : List ℕ) → has x (x ∷ xs) ≡ true
has_first x xs = grind (arith, nat_tests)

pub has_later : (n x : ℕ) (xs : List ℕ) → has n xs ≡ true → has n (x ∷ xs) ≡ true
has_later n x xs h = or_right (n == x) (has n xs) h

-- two assignments that agree on these modules
pub with_each_same : {D : Type 0} (f g : ℕ → D) (ns : List ℕ) → ((n : ℕ) → has n ns ≡ true → f n ≡ g n) → with_each f ns ≡ with_each g ns
with_each_same f g [] h = refl
with_each_same f g (n ∷ ns) h =
    let one : f n ≡ g n = h n (has_first n ns) in
    let rest = with_each_same f g ns (λ k i. h k (has_later k n ns i)) in
    cc (one, rest)

-- what is needed is a module
pub need_within : (count : ℕ) (direct need : ℕ → List ℕ) (is_cyclic : ℕ → Bool) → IsNeed count direct need is_cyclic → (k m n : ℕ) → length (need m) < k → has n (need m) ≡ true → n < count
need_within count direct need is_cyclic law zero m n below h = absurd (omega arith)
need_within count direct need is_cyclic law (suc k) m n below h =
    ⊎_elim
    (λ (d : has n (direct m) ≡ true). law.within m n d)
    (λ (w : (d : ℕ) × (has d (direct m) ≡ true) × (is_cyclic d ≡ false) × (has n (need d) ≡ true)).
    need_within count direct need is_cyclic law k w.0 n (omega (arith, below, through w.0 w.1 w.2 w.3)) w.3)
    (law.by_way m n h)
  where
    by : (b : Bool) → is_cyclic m ≡ b → is_cyclic m ≡ false
    by true e = let none : has n (need m) ≡ false = ap (has n) (law.of_cyclic m e) in absurd (true≢false (sym h ∙ none))
    by false e = e

    not_cyclic_m : (d : ℕ) → has d (direct m) ≡ true → is_cyclic m ≡ false
    not_cyclic_m d a = by (is_cyclic m) refl

    through : (d : ℕ) → has d (direct m) ≡ true → is_cyclic d ≡ false → has n (need d) ≡ true → length (need d) < length (need m)
    through d a c b = law.falls m d (law.direct_in m d (not_cyclic_m d a) a)

-- a need is decided wherever the direct imports are
need_decided : (count : ℕ) (direct need : ℕ → List ℕ) (is_cyclic : ℕ → Bool) → IsNeed count direct need is_cyclic → (is_decided : ℕ → Bool) → ((m : ℕ) → is_decided m ≡ true → IsReady direct is_cyclic is_decided m)
    → (k m : ℕ) → length (need m) < k → is_cyclic m ≡ false → IsReady direct is_cyclic is_decided m → (n : ℕ) → has n (need m) ≡ true → is_decided n ≡ true
need_decided count direct need is_cyclic law is_decided kept zero m below c ready n h = absurd (omega arith)
need_decided count direct need is_cyclic law is_decided kept (suc k) m below c ready n h =
    ⊎_elim
    (λ (d : has n (direct m) ≡ true). ready c n d)
    (λ (w : (d : ℕ) × (has d (direct m) ≡ true) × (is_cyclic d ≡ false) × (has n (need d) ≡ true)).
    need_decided count direct need is_cyclic law is_decided kept k w.0 (omega (arith, below, law.falls m w.0 (law.direct_in m w.0 c w.1))) w.2 (kept w.0 (ready c w.0 w.1)) n w.3)
    (law.by_way m n h)

pub decides_needs : (count : ℕ) (direct need : ℕ → List ℕ) (is_cyclic : ℕ → Bool) → IsNeed count direct need is_cyclic → DecidesNeeds direct need is_cyclic
decides_needs count direct need is_cyclic law is_decided kept m ready n h = by (is_cyclic m) refl
  where
    by : (b : Bool) → is_cyclic m ≡ b → is_decided n ≡ true
    by true e = let none : has n (need m) ≡ false = ap (has n) (law.of_cyclic m e) in absurd (true≢false (sym h ∙ none))
    by false e = need_decided count direct need is_cyclic law is_decided kept (suc (length (need m))) m (omega arith) e ready n h

-- every depth that is great enough gives the same
world_to_same : {D : Type 0} (R : Rules D) (count : ℕ) → IsNeed count R.direct R.need R.is_cyclic → (k j m : ℕ) → length (R.need m) < k → length (R.need m) < j → world_to R k m ≡ world_to R j m
unfolding world_to
world_to_same R count law zero j m a b = absurd (omega arith)
world_to_same R count law (suc k) zero m a b = absurd (omega arith)
world_to_same R count law (suc k) (suc j) m a b =
    ap (R.right m) (with_each_same (world_to R k) (world_to R j) (R.need m) (λ n h. world_to_same R count law k j n (omega (arith, law.falls m n h)) (omega (arith, law.falls m n h))))

-- the world is right over the world of the need
pub world_is : {D : Type 0} (R : Rules D) (count : ℕ) → IsNeed count R.direct R.need R.is_cyclic → (m : ℕ) → world R m ≡ R.right m (needs R m)
unfolding world world_to
world_is R count law m =
    ap (R.right m) (with_each_same (world_to R (length (R.need m))) (λ n. world_to R (suc (length (R.need n))) n) (R.need m)
    (λ n h. world_to_same R count law (length (R.need m)) (suc (length (R.need n))) n (law.falls m n h) (omega arith)))

-- whatever fits is the world
only_world : {D : Type 0} (R : Rules D) (count : ℕ) → IsNeed count R.direct R.need R.is_cyclic → (verdict : ℕ → D) → Fits R count verdict → (k m : ℕ) → length (R.need m) < k → m < count → verdict m ≡ world R m
only_world R count law verdict fits zero m a l = absurd (omega arith)
only_world R count law verdict fits (suc k) m a l =
    fits m l ∙ ap (R.right m) (with_each_same verdict (world R) (R.need m)
    (λ n h. only_world R count law verdict fits k n (omega (arith, law.falls m n h)) (need_within count R.direct R.need R.is_cyclic law (suc (length (R.need m))) m n (omega arith) h)))
    ∙ sym (world_is R count law m)

pub world_one : {D : Type 0} (R : Rules D) (count : ℕ) → IsNeed count R.direct R.need R.is_cyclic → (verdict : ℕ → D) → Fits R count verdict → (m : ℕ) → m < count → verdict m ≡ world R m
world_one R count law verdict fits m l = only_world R count law verdict fits (suc (length (R.need m))) m (omega arith) l
