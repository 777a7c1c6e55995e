-- The entries of a map that was made of a list: where its keys differ, those of the list in another order.
use Rattle.std.proofs.Common.{◌≡◌, false, cond, Some, None, List, [], ◌∷◌, map, refl, sym, ◌∙◌}
use Rattle.std.specs.declared.cmp.Ordering.{Ordering}
use Rattle.std.specs.declared.cmp.Ordering.TheVariants.{Less, Equal, Greater}
use Rattle.std.specs.Cmp.{IsTotalOrder}
use Rattle.std.specs.FinMap.{FinMap, entries, keys, empty, from_entries, put, find, entries-insert, len-entries, len-empty, get-entries, get-from_entries}
use Rattle.std.specs.FinMap.Entries.{by_order}
use Rattle.std.specs.List.{AllByRecursion, IsDistinct}
use Rattle.std.specs.List.Sorted.{IsPermutation}
use Rattle.std.specs.Ordering.{eq_by_cmp, is_eq}
use Rattle.std.proofs.lemmas.List.{nil_from_length}
use Rattle.std.proofs.lemmas.List.Sorted.{IsPermutation-refl, IsPermutation-cons, IsPermutation-middle, IsPermutation-trans, IsPermutation-map}
use Rattle.std.proofs.lemmas.Map.Keys.{IsDistinct-head, IsDistinct-tail}

module _ {K X : Type 0} (R : K → K → Ordering) where
  -- a key that ties with none isn't found
  pub find-apart : (k : K) (es : List (K × X)) → AllByRecursion (λ y. eq_by_cmp R k y ≡ false) (map (λ e. e.0) es) → find R k es ≡ None
  find-apart k [] apart = refl
  find-apart k (e ∷ es) apart = rw apart.0 (find-apart k es apart.1)

  -- a new key's entry is put somewhere among the others
  pub put-IsPermutation : (k : K) (v : X) (es : List (K × X)) → find R k es ≡ None → IsPermutation ((k, v) ∷ es) (put R k v es)
  put-IsPermutation k v [] none = IsPermutation-refl _
  put-IsPermutation k v (e ∷ es) none =
      elim (R k e.0) as (λ r. cond (is_eq r) (Some e.1) (find R k es) ≡ None → IsPermutation ((k, v) ∷ e ∷ es) (by_order r ((k, v) ∷ e ∷ es) ((e.0, v) ∷ es) (e ∷ put R k v es))) [
        | Less ↦ λ _. IsPermutation-refl _
        | Equal ↦ λ same. absurd (cc)
        | Greater ↦ λ new. IsPermutation-trans _ _ _ (IsPermutation-middle ((k, v) ∷ []) e es) (IsPermutation-cons e _ _ (put-IsPermutation k v es new))
      ] none

  entries-empty : entries (empty {X = X} {R = R}) ≡ []
  entries-empty = nil_from_length _ (sym (len-entries _) ∙ len-empty R X)

  -- where the keys differ, the entries of the map are those of the list
  pub entries-from_entries : IsTotalOrder R → (es : List (K × X)) → IsDistinct (eq_by_cmp R) (map (λ e. e.0) es) → IsPermutation es (entries (from_entries {R = R} es))
  entries-from_entries o [] distinct = rw entries-empty (IsPermutation-refl _)
  entries-from_entries o (e ∷ es) distinct =
      let m : FinMap R X = from_entries es in
      let new : find R e.0 (entries m) ≡ None = sym (get-entries m e.0) ∙ get-from_entries o es e.0 ∙ find-apart e.0 es (IsDistinct-head _ _ _ distinct) in
      rw (entries-insert o m e.0 e.1) (IsPermutation-trans _ _ _ (IsPermutation-cons e _ _ (entries-from_entries o es (IsDistinct-tail _ _ _ distinct))) (put-IsPermutation e.0 e.1 (entries m) new))

  -- and so are the keys
  pub keys-from_entries : IsTotalOrder R → (es : List (K × X)) → IsDistinct (eq_by_cmp R) (map (λ e. e.0) es) → IsPermutation (map (λ e. e.0) es) (keys (from_entries {R = R} es))
  keys-from_entries o es distinct = IsPermutation-map (λ e. e.0) _ _ (entries-from_entries o es distinct)
