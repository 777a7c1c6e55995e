-- The ascending list of the numbers below a bound that pass a test.
use Rattle.std.proofs.Common.{◌≡◌, ◌⊎◌, ◌==◌, ℕ, zero, suc, ◌<◌, ◌≤◌, Bool, true, false, cond, List, [], ◌∷◌, ◌++◌, length, refl, sym, ◌∙◌, subst, ⊎_elim, arith, get_or}
use Rattle.std.specs.List.Sorted.{IsStrictlyIncreasing}
use Rattle.std.proofs.lemmas.Bool.Decides.{nat_tests}
use Rattle.std.proofs.lemmas.List.{append-nil, length-append}
use Rattle.std.proofs.lemmas.List.Folds.{list_any-append}
use Rattle.std.proofs.lemmas.Grind.{common_steps}
use Rattle.import_graph.specs.Graph.{has, IsListOf}
use Rattle.import_graph.specs.Closure.{those}
use Rattle.import_graph.proofs.Bools.{or_cases, or_left, or_right, not_both}

-- the last number, if it passes
last_has : (test : ℕ → Bool) (k n : ℕ) → has n (cond (test k) (k ∷ []) []) ≡ true → (n ≡ k) × (test n ≡ true)
last_has test k n h = by (test k) refl h
  where
    by : (b : Bool) → test k ≡ b → has n (cond b (k ∷ []) []) ≡ true → (n ≡ k) × (test n ≡ true)
    by true e h =
        let same : n ≡ k = grind (arith, nat_tests) in
        (same, subst (λ (x : ℕ). test x ≡ true) (sym same) e)
    by false e h = absurd cc

has_last : (test : ℕ → Bool) (k : ℕ) → test k ≡ true → has k (cond (test k) (k ∷ []) []) ≡ true
has_last test k e = subst (λ (b : Bool). has k (cond b (k ∷ []) []) ≡ true) (sym e) (has_head k)
  where
    has_head : (k : ℕ) → has k (k ∷ []) ≡ true
    has_head k = grind (arith, nat_tests)

pub has_those : (test : ℕ → Bool) (c n : ℕ) → has n (those test c) ≡ true → (n < c) × (test n ≡ true)
has_those test zero n h = absurd cc
has_those test (suc k) n h =
    ⊎_elim
    (λ (a : has n (those test k) ≡ true). let r = has_those test k n a in (omega (arith, r.0), r.1))
    (λ (b : has n (cond (test k) (k ∷ []) []) ≡ true). let r = last_has test k n b in (omega (arith, r.0), r.1))
    (or_cases (has n (those test k)) (has n (cond (test k) (k ∷ []) [])) (sym (list_any-append (λ x. n == x) (those test k) (cond (test k) (k ∷ []) [])) ∙ h))

pub those_has : (test : ℕ → Bool) (c n : ℕ) → n < c → test n ≡ true → has n (those test c) ≡ true
those_has test zero n l t = absurd (omega arith)
those_has test (suc k) n l t =
    list_any-append (λ x. n == x) (those test k) (cond (test k) (k ∷ []) []) ∙
    ⊎_elim
    (λ (e : n ≡ k). or_right (has n (those test k)) _ (subst (λ (x : ℕ). has x (cond (test k) (k ∷ []) []) ≡ true) (sym e) (has_last test k (subst (λ (x : ℕ). test x ≡ true) e t))))
    (λ (b : n < k). or_left (has n (those test k)) _ (those_has test k n b t))
    (last_or_below n k l)
  where
    last_or_below : (j k : ℕ) → j < suc k → (j ≡ k) ⊎ (j < k)
    last_or_below j k h = grind arith

pub length-last : (b : Bool) (k : ℕ) → length (cond b (k ∷ []) []) ≤ 1
length-last true k = grind arith
length-last false k = grind arith

pub length-those : (test : ℕ → Bool) (c : ℕ) → length (those test c) ≤ c
length-those test zero = grind arith
length-those test (suc k) = omega (arith, length-those test k, length-append (those test k) (cond (test k) (k ∷ []) []), length-last (test k) k)

-- one that is passed by fewer numbers
last_fewer : (p q : Bool) (k : ℕ) → (p ≡ true → q ≡ true) → length (cond p (k ∷ []) []) ≤ length (cond q (k ∷ []) [])
last_fewer true true k h = grind arith
last_fewer true false k h = absurd (not_both false refl (h refl))
last_fewer false true k h = grind arith
last_fewer false false k h = grind arith

pub those_fewer : (p q : ℕ → Bool) (c : ℕ) → ((n : ℕ) → p n ≡ true → q n ≡ true) → length (those p c) ≤ length (those q c)
those_fewer p q zero h = grind arith
those_fewer p q (suc k) h =
    omega (arith, those_fewer p q k h, last_fewer (p k) (q k) k (h k), length-append (those p k) (cond (p k) (k ∷ []) []), length-append (those q k) (cond (q k) (k ∷ []) []))

last_less : (p q : Bool) (k : ℕ) → p ≡ false → q ≡ true → length (cond p (k ∷ []) []) < length (cond q (k ∷ []) [])
last_less true q k e f = absurd cc
last_less false true k e f = grind arith
last_less false false k e f = absurd cc

pub those_less : (p q : ℕ → Bool) (c : ℕ) → ((n : ℕ) → p n ≡ true → q n ≡ true) → (n : ℕ) → n < c → p n ≡ false → q n ≡ true → length (those p c) < length (those q c)
those_less p q zero h n l e f = absurd (omega arith)
those_less p q (suc k) h n l e f =
    ⊎_elim
    (λ (same : n ≡ k). omega (
      arith,
      those_fewer p q k h,
      last_less (p k) (q k) k (subst (λ (x : ℕ). p x ≡ false) same e) (subst (λ (x : ℕ). q x ≡ true) same f),
      length-append (those p k) (cond (p k) (k ∷ []) []),
      length-append (those q k) (cond (q k) (k ∷ []) []),
    ))
    (λ (below : n < k). omega (arith, those_less p q k h n below e f, last_fewer (p k) (q k) k (h k), length-append (those p k) (cond (p k) (k ∷ []) []), length-append (those q k) (cond (q k) (k ∷ []) [])))
    (last_or_below n k l)
  where
    last_or_below : (j k : ℕ) → j < suc k → (j ≡ k) ⊎ (j < k)
    last_or_below j k h = grind arith

-- a list with a greater number behind it ascends
ascending_push : (xs : List ℕ) (k : ℕ) → IsStrictlyIncreasing xs → ((i : ℕ) → i < length xs → get_or xs i 0 < k) → IsStrictlyIncreasing (xs ++ k ∷ [])
ascending_push xs k up below i l = grind (arith, common_steps, up i, below i, length-append xs (k ∷ []))

below_push : (xs : List ℕ) (k : ℕ) → ((i : ℕ) → i < length xs → get_or xs i 0 < k) → (i : ℕ) → i < length (xs ++ k ∷ []) → get_or (xs ++ k ∷ []) i 0 < suc k
below_push xs k below i l = grind (arith, common_steps, below i, length-append xs (k ∷ []))

-- the list ascends, and stays below the bound
pub those_up : (test : ℕ → Bool) (c : ℕ) → IsStrictlyIncreasing (those test c) × ((i : ℕ) → i < length (those test c) → get_or (those test c) i 0 < c)
those_up test zero = (λ i l. absurd (grind arith), λ i l. absurd (grind arith))
those_up test (suc k) = by (test k) refl (those_up test k)
  where
    by : (b : Bool) → test k ≡ b → IsStrictlyIncreasing (those test k) × ((i : ℕ) → i < length (those test k) → get_or (those test k) i 0 < k)
        → IsStrictlyIncreasing (those test k ++ cond b (k ∷ []) []) × ((i : ℕ) → i < length (those test k ++ cond b (k ∷ []) []) → get_or (those test k ++ cond b (k ∷ []) []) i 0 < suc k)
    by true e up = (ascending_push (those test k) k up.0 up.1, below_push (those test k) k up.1)
    by false e up =
        subst (λ (xs : List ℕ). IsStrictlyIncreasing xs × ((i : ℕ) → i < length xs → get_or xs i 0 < suc k)) (sym (append-nil (those test k)))
        (up.0, λ i l. omega (arith, up.1 i l))

-- none pass
pub those_none : (test : ℕ → Bool) (c : ℕ) → ((n : ℕ) → test n ≡ false) → those test c ≡ []
those_none test zero h = refl
those_none test (suc k) h = subst (λ (b : Bool). those test k ++ cond b (k ∷ []) [] ≡ []) (sym (h k)) (append-nil (those test k) ∙ those_none test k h)

-- it is the list of the numbers that pass, where these are below the bound
pub those_list : (test : ℕ → Bool) (c : ℕ) (P : ℕ → Type 0) → ((n : ℕ) → test n ≡ true → P n) → ((n : ℕ) → P n → (n < c) × (test n ≡ true)) → IsListOf P (those test c)
those_list test c P to from = record {
  ascending = (those_up test c).0;
  exact = λ n. (λ h. to n (has_those test c n h).1, λ h. let r = from n h in those_has test c n r.0 r.1);
}
