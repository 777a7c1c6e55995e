-- Sets of numbers as the bits of words.
use Rattle.std.proofs.Common.{◌≡◌, ◌≢◌, ◌==◌, ◌⊎◌, ℕ, zero, suc, ◌<◌, ◌≤◌, ◌*◌, ◌/◌, ◌%◌, ◌^◌, ◌||◌, Bool, true, false, List, length, max, get_or, bit_or, w64, refl, sym, ap, ◌∙◌, subst, ⊎_elim, inl, inr, arith, replicate}
use Rattle.std.specs.Prelude.{slice_set, slice_index}
use Rattle.std.specs.Int.{bit_at}
use Rattle.std.proofs.lemmas.Bool.Decides.{nat_tests}
use Rattle.std.proofs.lemmas.List.{get_or-set_same, get_or-set_other}
use Rattle.std.proofs.lemmas.Nat.Bits.{bit_at_or, bit_at-zero, bit_at-lt, bit_at_set_same, bit_at_set_other}
use Rattle.std.proofs.lemmas.Grind.{common_steps}
use Rattle.import_graph.specs.Sets.{is_in}

-- the number itself, and the others
inserted_itself : (words : List ℕ) (k w : ℕ) → k / 64 < length words → is_in (slice_set words (k / 64) (bit_or w (1 * 2 ^ (k % 64) % 18446744073709551616))) k ≡ true
inserted_itself words k w within =
    ap (λ x. bit_at x (k % 64) == 1) (get_or-set_same words (k / 64) (bit_or w (1 * 2 ^ (k % 64) % 18446744073709551616)) 0 within)
    ∙ ap (λ x. x == 1) (bit_at_set_same w64 w (k % 64) (omega arith))

inserted_other : (words : List ℕ) (k n w : ℕ) → k / 64 < length words → w ≡ get_or words (k / 64) 0 → n ≢ k
    → is_in (slice_set words (k / 64) (bit_or w (1 * 2 ^ (k % 64) % 18446744073709551616))) n ≡ is_in words n
inserted_other words k n w within old differ = by (cases n k differ)
  where
    x : ℕ
    x = bit_or w (1 * 2 ^ (k % 64) % 18446744073709551616)

    cases : (n k : ℕ) → n ≢ k → (n / 64 ≢ k / 64) ⊎ ((n / 64 ≡ k / 64) × (n % 64 ≢ k % 64))
    cases n k h = grind arith

    by : (n / 64 ≢ k / 64) ⊎ ((n / 64 ≡ k / 64) × (n % 64 ≢ k % 64)) → is_in (slice_set words (k / 64) x) n ≡ is_in words n
    by (inl other) = ap (λ y. bit_at y (n % 64) == 1) (get_or-set_other words (k / 64) (n / 64) x 0 other)
    by (inr same) =
        ap (λ y. bit_at y (n % 64) == 1) (ap (λ (i : ℕ). get_or (slice_set words (k / 64) x) i 0) same.0 ∙ get_or-set_same words (k / 64) x 0 within)
        ∙ ap (λ y. y == 1) (bit_at_set_other w64 w (k % 64) (omega arith) (n % 64) same.1)
        ∙ ap (λ y. bit_at y (n % 64) == 1) (old ∙ ap (λ (i : ℕ). get_or words i 0) (sym same.0))

pub inserted : (words : List ℕ) (k n w : ℕ) → k / 64 < length words → w ≡ get_or words (k / 64) 0
    → is_in (slice_set words (k / 64) (bit_or w (1 * 2 ^ (k % 64) % 18446744073709551616))) n ≡ (k == n) || is_in words n
inserted words k n w within old = by (k == n) refl
  where
    same : (k == n) ≡ true → k ≡ n
    same h = grind (arith, nat_tests)

    differ : (k == n) ≡ false → n ≢ k
    differ h = grind (arith, nat_tests)

    by : (b : Bool) → (k == n) ≡ b → is_in (slice_set words (k / 64) (bit_or w (1 * 2 ^ (k % 64) % 18446744073709551616))) n ≡ b || is_in words n
    by true e = subst (λ (m : ℕ). is_in (slice_set words (k / 64) (bit_or w (1 * 2 ^ (k % 64) % 18446744073709551616))) m ≡ true) (same e) (inserted_itself words k w within)
    by false e = inserted_other words k n w within old (differ e)

max_is_one : (a b : ℕ) → a < 2 → b < 2 → (max a b == 1) ≡ (a == 1) || (b == 1)
max_is_one a b h k = grind (arith, nat_tests)

-- words joined, one by one
pub joined : (words other new : List ℕ) → ((i : ℕ) → get_or new i 0 ≡ bit_or (get_or words i 0) (get_or other i 0)) → (n : ℕ) → is_in new n ≡ is_in words n || is_in other n
joined words other new each n =
    ap (λ x. bit_at x (n % 64) == 1) (each (n / 64))
    ∙ ap (λ x. x == 1) (bit_at_or (get_or words (n / 64) 0) (get_or other (n / 64) 0) (n % 64))
    ∙ max_is_one (bit_at (get_or words (n / 64) 0) (n % 64)) (bit_at (get_or other (n / 64) 0) (n % 64)) (bit_at-lt _ _) (bit_at-lt _ _)

past_end : (words : List ℕ) (i : ℕ) → length words ≤ i → get_or words i 0 ≡ 0
past_end words i h = grind (arith, common_steps)

-- where the first words are joined, and the others are as they were, past the end of both
pub joined_below : (words other new : List ℕ) (at : ℕ) → length words ≡ length other → length words ≤ at
    → ((i : ℕ) → i < at → get_or new i 0 ≡ bit_or (get_or words i 0) (get_or other i 0)) → ((i : ℕ) → at ≤ i → get_or new i 0 ≡ get_or words i 0)
    → (n : ℕ) → is_in new n ≡ is_in words n || is_in other n
joined_below words other new at same end done left n = joined words other new each n
  where
    below_or_past : (i at : ℕ) → (i < at) ⊎ (at ≤ i)
    below_or_past i at = grind arith

    cc_or : (a b : ℕ) → a ≡ 0 → b ≡ 0 → bit_or a b ≡ 0
    cc_or a b e f = cc

    each : (i : ℕ) → get_or new i 0 ≡ bit_or (get_or words i 0) (get_or other i 0)
    each i = ⊎_elim (λ (a : i < at). done i a)
        (λ (b : at ≤ i). left i b ∙ past_end words i (omega arith) ∙ sym (cc_or (get_or words i 0) (get_or other i 0) (past_end words i (omega arith)) (past_end other i (omega arith))))
        (below_or_past i at)

-- no number is in a set of zeros
get_or-zeros : (k i : ℕ) → slice_index (replicate k 0) i ≡ 0
get_or-zeros zero i = refl
get_or-zeros (suc k) zero = refl
get_or-zeros (suc k) (suc i) = get_or-zeros k i

pub none_in : (k n : ℕ) → is_in (replicate k 0) n ≡ false
none_in k n = ap (λ x. bit_at x (n % 64) == 1) (get_or-zeros k (n / 64)) ∙ ap (λ x. x == 1) (bit_at-zero (n % 64))
