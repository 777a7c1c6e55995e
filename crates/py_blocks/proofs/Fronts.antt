-- The first rows of rows.
use Rattle.std.proofs.Common.{◌≡◌, ◌<◌, ◌≤◌, ℕ, zero, suc, [], ◌∷◌, ◌++◌, take, slice_get, length, Some, ◌⊎◌, inl, inr, refl, sym, ap, subst, arith, append_assoc}
use Rattle.py_blocks.specs.Rows.{Row}
use Rattle.py_blocks.specs.Blocks.{Rows, ModuleAt}
use Rattle.py_blocks.specs.Faults.{level, Shallow, Starts}

pub nil_right : (rows : Rows) → rows ++ [] ≡ rows
nil_right [] = refl
nil_right (t ∷ rows) = ap (λ s. t ∷ s) (nil_right rows)

take_none : (n : ℕ) → take {A = Row} n [] ≡ []
take_none zero = refl
take_none (suc n) = refl

take_next : (n : ℕ) (rows : Rows) (t : Row) → (take n (rows ++ t ∷ []) ≡ take n rows) ⊎ (take n (rows ++ t ∷ []) ≡ rows ++ t ∷ [])
take_next zero rows t = inl refl
take_next (suc n) [] t = inr (ap (λ s. t ∷ s) (take_none n))
take_next (suc n) (a ∷ rows) t = go (take_next n rows t)
  where
    go : (take n (rows ++ t ∷ []) ≡ take n rows) ⊎ (take n (rows ++ t ∷ []) ≡ rows ++ t ∷ []) → (a ∷ take n (rows ++ t ∷ []) ≡ a ∷ take n rows) ⊎ (a ∷ take n (rows ++ t ∷ []) ≡ a ∷ rows ++ t ∷ [])
    go (inl e) = inl (ap (λ s. a ∷ s) e)
    go (inr e) = inr (ap (λ s. a ∷ s) e)

pub shallow_none : Shallow []
shallow_none n = rw (take_none n) (omega arith)

pub shallow_next : (rows : Rows) (t : Row) → Shallow rows → level (rows ++ t ∷ []) ≤ 100 → Shallow (rows ++ t ∷ [])
shallow_next rows t shallow next n = go (take_next n rows t)
  where
    go : (take n (rows ++ t ∷ []) ≡ take n rows) ⊎ (take n (rows ++ t ∷ []) ≡ rows ++ t ∷ []) → level (take n (rows ++ t ∷ [])) ≤ 100
    go (inl e) = subst (λ s. level s ≤ 100) (sym e) (shallow n)
    go (inr e) = subst (λ s. level s ≤ 100) (sym e) next

take_whole : (rows : Rows) → take (length rows) rows ≡ rows
take_whole [] = refl
take_whole (t ∷ rows) = ap (λ s. t ∷ s) (take_whole rows)

pub shallow_whole : (rows : Rows) → Shallow rows → level rows ≤ 100
shallow_whole rows shallow = subst (λ s. level s ≤ 100) (take_whole rows) (shallow (length rows))

take_front : (n : ℕ) (rows s : Rows) → (m : ℕ) × (take n rows ≡ take m (rows ++ s))
take_front zero rows s = (0, refl)
take_front (suc n) [] s = (0, refl)
take_front (suc n) (a ∷ rows) s = let f = take_front n rows s in (suc f.0, ap (λ r. a ∷ r) f.1)

pub starts_front : (rows s : Rows) → Starts (rows ++ s) → Starts rows
starts_front rows s h = (
  (s ++ h.0.0, h.0.1, subst (λ r. ModuleAt r h.0.1) (append_assoc rows s h.0.0) h.0.2),
  λ n. let f = take_front n rows s in subst (λ r. level r ≤ 100) (sym f.1) (h.1 f.0),
)

-- the rows up to the n-th
pub cut : (rows : Rows) (n : ℕ) (t : Row) → slice_get rows n ≡ Some t → (s : Rows) × (rows ≡ (take n rows ++ t ∷ []) ++ s)
cut [] n t e = absurd cc
cut (a ∷ rows) zero t e = let same : a ≡ t = cc in (rows, ap (λ u. u ∷ rows) same)
cut (a ∷ rows) (suc n) t e = let c = cut rows n t e in (c.0, ap (λ s. a ∷ s) c.1)

pub cut_before : (rows : Rows) (n k : ℕ) (t : Row) → slice_get rows n ≡ Some t → n < k → (s : Rows) × (take k rows ≡ (take n rows ++ t ∷ []) ++ s)
cut_before [] n k t e h = absurd cc
cut_before (a ∷ rows) n zero t e h = absurd (omega arith)
cut_before (a ∷ rows) zero (suc k) t e h = let same : a ≡ t = cc in (take k rows, ap (λ u. u ∷ take k rows) same)
cut_before (a ∷ rows) (suc n) (suc k) t e h = let c = cut_before rows n k t e (omega arith) in (c.0, ap (λ s. a ∷ s) c.1)
