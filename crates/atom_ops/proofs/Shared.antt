-- How far texts begin alike.
use Rattle.std.proofs.Common.{◌≡◌, ◌≤◌, ◌+◌, ◌-◌, ◌==◌, ℕ, zero, suc, Bool, true, false, if◌then◌else◌, List, [], ◌∷◌, ◌++◌, length, drop, min, nat_eq, nat_lt, Option, Some, None, refl, sym, ap, subst, ◌∙◌, arith, slice_get}
use Rattle.std.specs.List.{starts_with}
use Rattle.std.proofs.lemmas.Bool.Decides.{Decides-eqb, nat_tests}
use Rattle.std.proofs.lemmas.List.{drop-drop}
use Rattle.std.proofs.lemmas.Slice.Eq.{starts_is}
use Rattle.py_tree.specs.Syntax.{Text}
use Rattle.atom_ops.specs.declared.search.Window.{Window}
use Rattle.atom_ops.specs.Shared.{AreLengths, IsWindow, at_most, known, or_further, shared}

same : (x y : ℕ) → (x == y) ≡ true → x ≡ y
same x y h = grind (arith, nat_tests)

pub within_both : (xs ys : Text) → (shared xs ys ≤ length xs) × (shared xs ys ≤ length ys)
within_both [] ys = (omega arith, omega arith)
within_both (x ∷ xs) [] = (omega arith, omega arith)
within_both (x ∷ xs) (y ∷ ys) = by (x == y) (within_both xs ys) where
  by : (b : Bool) → (shared xs ys ≤ length xs) × (shared xs ys ≤ length ys)
      → ((if b then suc (shared xs ys) else 0) ≤ length (x ∷ xs)) × ((if b then suc (shared xs ys) else 0) ≤ length (y ∷ ys))
  by true h = (omega (arith, h.0), omega (arith, h.1))
  by false h = (omega arith, omega arith)

-- what is known of it may be left out
pub behind : (xs ys : Text) (n : ℕ) → n ≤ shared xs ys → shared xs ys ≡ n + shared (drop n xs) (drop n ys)
behind xs ys zero h = omega arith
behind [] ys (suc n) h = absurd (omega (arith, h))
behind (x ∷ xs) [] (suc n) h = absurd (omega (arith, h))
behind (x ∷ xs) (y ∷ ys) (suc n) h = by (x == y) (behind xs ys n) h where
  by : (b : Bool) → (n ≤ shared xs ys → shared xs ys ≡ n + shared (drop n xs) (drop n ys)) → suc n ≤ (if b then suc (shared xs ys) else 0)
      → (if b then suc (shared xs ys) else 0) ≡ suc n + shared (drop n xs) (drop n ys)
  by true rest h = omega (arith, rest (omega (arith, h)))
  by false rest h = absurd (omega (arith, h))

-- what begins like ys begins like zs as far as ys does
alike : (xs ys zs : Text) (n : ℕ) → n ≤ shared xs ys → min (shared ys zs) n ≤ shared xs zs
alike xs ys zs zero h = omega arith
alike [] ys zs (suc n) h = absurd (omega (arith, h))
alike (x ∷ xs) [] zs (suc n) h = absurd (omega (arith, h))
alike (x ∷ xs) (y ∷ ys) [] (suc n) h = omega arith
alike (x ∷ xs) (y ∷ ys) (z ∷ zs) (suc n) h = by (x == y) refl (alike xs ys zs n) h where
  further : (b : Bool) → min (shared ys zs) n ≤ shared xs zs → min (if b then suc (shared ys zs) else 0) (suc n) ≤ (if b then suc (shared xs zs) else 0)
  further true h = omega (arith, h)
  further false h = omega arith

  by : (b : Bool) → (x == y) ≡ b → (n ≤ shared xs ys → min (shared ys zs) n ≤ shared xs zs) → suc n ≤ (if b then suc (shared xs ys) else 0)
      → min (shared (y ∷ ys) (z ∷ zs)) (suc n) ≤ shared (x ∷ xs) (z ∷ zs)
  by true e rest h = subst (λ w. min (shared (y ∷ ys) (z ∷ zs)) (suc n) ≤ shared (w ∷ xs) (z ∷ zs)) (sym (same x y e)) (further (y == z) (rest (omega (arith, h))))
  by false e rest h = absurd (omega (arith, h))

dropped : (xs ys : Text) (d n : ℕ) → n ≤ shared xs ys → n - d ≤ shared (drop d xs) (drop d ys)
dropped xs ys zero n h = omega (arith, h)
dropped [] ys (suc d) n h = omega (arith, h)
dropped (x ∷ xs) [] (suc d) n h = omega (arith, h)
dropped (x ∷ xs) (y ∷ ys) (suc d) n h = by (x == y) (dropped xs ys d (n - 1)) h where
  by : (b : Bool) → (n - 1 ≤ shared xs ys → n - 1 - d ≤ shared (drop d xs) (drop d ys)) → n ≤ (if b then suc (shared xs ys) else 0) → n - suc d ≤ shared (drop d xs) (drop d ys)
  by true rest h = omega (arith, rest (omega (arith, h)))
  by false rest h = omega (arith, h)

-- ---- windows

-- what a window shows is so
pub known_is : (part text lengths : Text) (w : Window) (place : ℕ) → w.start ≤ place → AreLengths part lengths → IsWindow part text w → known lengths w place ≤ shared (drop place text) part
known_is part text lengths w place after are window = by (slice_get lengths (place - w.start)) refl where
  distance : ℕ
  distance = place - w.start

  there : drop distance (drop w.start text) ≡ drop place text
  there = drop-drop distance w.start text ∙ ap (λ n. drop n text) (omega (arith, after))

  by : (o : Option ℕ) → slice_get lengths distance ≡ o → at_most o (w.end - place) ≤ shared (drop place text) part
  by None e = omega arith
  by (Some n) e =
      let own : n ≡ shared (drop distance part) part = are distance n e in
      let reaches : (w.end - w.start) - distance ≤ shared (drop distance (drop w.start text)) (drop distance part) = dropped (drop w.start text) part distance (w.end - w.start) window in
      let least = alike (drop distance (drop w.start text)) (drop distance part) part ((w.end - w.start) - distance) reaches in
      let moved : min (shared (drop distance part) part) ((w.end - w.start) - distance) ≤ shared (drop place text) part = subst (λ z. min (shared (drop distance part) part) ((w.end - w.start) - distance) ≤ shared z part) there least in
      omega (arith, own, after, moved)

pub further_window : (part text : Text) (w : Window) (place count : ℕ) → IsWindow part text w → count ≡ shared (drop place text) part → IsWindow part text (or_further w place count)
further_window part text w place count window is = by (nat_lt w.end (place + count)) where
  by : (b : Bool) → IsWindow part text (if b then record { start = place; end = place + count } else w)
  by true = omega (arith, is)
  by false = window

pub further_start : (w : Window) (place count : ℕ) → w.start ≤ place → (or_further w place count).start ≤ place + 1
further_start w place count h = by (nat_lt w.end (place + count)) where
  by : (b : Bool) → (if b then record { start = place; end = place + count } else w).start ≤ place + 1
  by true = omega arith
  by false = omega (arith, h)

-- ---- the lengths of a part

itself : (xs : Text) → shared xs xs ≡ length xs
itself [] = refl
itself (x ∷ xs) = by (x == x) (both x) (itself xs) where
  both : (n : ℕ) → (n == n) ≡ true
  both n = grind (arith, nat_tests)

  by : (b : Bool) → b ≡ true → shared xs xs ≡ length xs → (if b then suc (shared xs xs) else 0) ≡ suc (length xs)
  by true e h = ap suc h
  by false e h = absurd cc

pub first_length : (part : Text) → AreLengths part (length part ∷ [])
first_length part zero n h = let is : n ≡ length part = cc in is ∙ sym (itself part)
first_length part (suc k) n h = absurd cc

pushed : (P : ℕ → ℕ → Type 0) (xs : List ℕ) (x : ℕ) → ((k n : ℕ) → slice_get xs k ≡ Some n → P k n) → P (length xs) x → (k n : ℕ) → slice_get (xs ++ x ∷ []) k ≡ Some n → P k n
pushed P [] x h p zero n e = let is : x ≡ n = cc in subst (P 0) is p
pushed P [] x h p (suc k) n e = absurd cc
pushed P (y ∷ ys) x h p zero n e = h 0 n e
pushed P (y ∷ ys) x h p (suc k) n e = pushed (λ k n. P (suc k) n) ys x (λ k n e. h (suc k) n e) p k n e

pub next_length : (part : Text) (lengths : List ℕ) (place count : ℕ) → AreLengths part lengths → length lengths ≡ place → count ≡ shared (drop place part) part → AreLengths part (lengths ++ count ∷ [])
next_length part lengths place count are at is =
    pushed (λ k n. n ≡ shared (drop k part) part) lengths count are (is ∙ ap (λ k. shared (drop k part) part) (sym at))

-- ---- where the part stands

prefix : (xs part : Text) → shared xs part ≡ length part → xs ≡ part ++ drop (length part) xs
prefix xs [] h = refl
prefix [] (y ∷ ys) h = absurd (omega (arith, h))
prefix (x ∷ xs) (y ∷ ys) h = by (x == y) refl (prefix xs ys) h where
  by : (b : Bool) → (x == y) ≡ b → (shared xs ys ≡ length ys → xs ≡ ys ++ drop (length ys) xs) → (if b then suc (shared xs ys) else 0) ≡ suc (length ys)
      → x ∷ xs ≡ y ∷ (ys ++ drop (length ys) xs)
  by true e rest h = ap (λ z. z ∷ xs) (same x y e) ∙ ap (λ zs. y ∷ zs) (rest (omega (arith, h)))
  by false e rest h = absurd (omega (arith, h))

in_front : (part rest : Text) → shared (part ++ rest) part ≡ length part
in_front [] [] = refl
in_front [] (x ∷ xs) = refl
in_front (x ∷ xs) rest = by (x == x) (both x) (in_front xs rest) where
  both : (n : ℕ) → (n == n) ≡ true
  both n = grind (arith, nat_tests)

  by : (b : Bool) → b ≡ true → shared (xs ++ rest) xs ≡ length xs → (if b then suc (shared (xs ++ rest) xs) else 0) ≡ suc (length xs)
  by true e h = ap suc h
  by false e h = absurd cc

pub begins : (xs part : Text) → shared xs part ≡ length part → starts_with nat_eq xs part ≡ true
begins xs part h = (starts_is Decides-eqb xs part (starts_with nat_eq xs part) refl).1 (drop (length part) xs) (prefix xs part h)

pub begun : (xs part : Text) → starts_with nat_eq xs part ≡ true → shared xs part ≡ length part
begun xs part h =
    subst (λ z. shared z part ≡ length part) (sym ((starts_is Decides-eqb xs part (starts_with nat_eq xs part) refl).0 h)) (in_front part (drop (length part) xs))
