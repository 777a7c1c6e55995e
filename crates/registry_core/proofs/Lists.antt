-- Lists of stored verdicts, and places in lists.
use Rattle.std.proofs.Common.{◌≡◌, ◌⊎◌, ◌≢◌, ◌==◌, ℕ, zero, suc, ◌<◌, Bool, true, false, true≢false, List, [], ◌∷◌, ◌++◌, length, map, replicate, take, drop, Option, Some, None, refl, sym, ap, ◌∙◌, arith, inl, inr}
use Rattle.std.specs.Prelude.{slice_get, slice_set, slice_index_or, option_map, is_some}
use Rattle.std.specs.List.{list_all}
use Rattle.std.specs.Arc.{arc_value}
use Rattle.std.specs.declared.sync.Arc.{Arc}
use Rattle.std.specs.declared.alloc.Global.{Global}
use Rattle.std.proofs.lemmas.Bool.Decides.{nat_tests}
use Rattle.std.proofs.lemmas.List.{map-set, drop_all, take_all, append-nil}
use Rattle.import_graph.specs.Graph.{has}
use Rattle.import_graph.proofs.Worlds.{has_first, has_later}
use Rattle.registry_core.specs.Machine.{verdict_at}
use Rattle.registry_core.specs.Stored.{shown, values_of}

pub same_or_not : (k m : ℕ) → (k ≡ m) ⊎ (k ≢ m)
same_or_not k m = by (k == m) refl
  where
    by : (b : Bool) → (k == m) ≡ b → (k ≡ m) ⊎ (k ≢ m)
    by true e = inl (grind (arith, nat_tests))
    by false e = inr (λ same. grind (arith, nat_tests))

pub same_some : {D : Type 0} (x y : D) → Some x ≡ Some y → x ≡ y
same_some x y e = cc

pub none_some : {D : Type 0} (x : D) → None ≡ Some x → ⊥
none_some x e = cc

pub all_same : {X : Type 0} (n k : ℕ) (x : X) → slice_index_or (replicate n x) k x ≡ x
all_same zero k x = refl
all_same (suc n) zero x = refl
all_same (suc n) (suc k) x = all_same n k x

pub map_none : {X Y : Type 0} (f : X → Y) (n : ℕ) → map (λ o. option_map f o) (replicate n None) ≡ replicate n None
map_none f zero = refl
map_none f (suc n) = ap (λ r. None ∷ r) (map_none f n)

-- what stands behind a map of options stood there before
some_before : {X Y : Type 0} (f : X → Y) (o : Option X) (y : Y) → option_map f o ≡ Some y → (x : X) × (o ≡ Some x) × (f x ≡ y)
some_before f (Some x) y e = (x, refl, same_some (f x) y e)
some_before f None y e = absurd (none_some y e)

pub at_map : {X Y : Type 0} (f : X → Y) (os : List (Option X)) (k : ℕ) → verdict_at (map (λ o. option_map f o) os) k ≡ option_map f (verdict_at os k)
at_map f [] k = refl
at_map f (o ∷ os) zero = refl
at_map f (o ∷ os) (suc k) = at_map f os k

pub at_before : {X Y : Type 0} (f : X → Y) (os : List (Option X)) (k : ℕ) (y : Y) → verdict_at (map (λ o. option_map f o) os) k ≡ Some y → (x : X) × (verdict_at os k ≡ Some x) × (f x ≡ y)
at_before f os k y e = some_before f (verdict_at os k) y (sym (at_map f os k) ∙ e)

pub has_at : (xs : List ℕ) (i : ℕ) → i < length xs → has (slice_index_or xs i 0) xs ≡ true
has_at [] i h = absurd (omega arith)
has_at (x ∷ xs) zero h = has_first x xs
has_at (x ∷ xs) (suc i) h = has_later (slice_index_or xs i 0) x xs (has_at xs i (omega arith))

pub get_push : {X : Type 0} (xs : List X) (y : X) (k : ℕ) (r : X) → slice_get (xs ++ y ∷ []) k ≡ Some r → (slice_get xs k ≡ Some r) ⊎ (y ≡ r)
get_push [] y zero r h = inr cc
get_push [] y (suc k) r h = absurd cc
get_push (x ∷ xs) y zero r h = inl h
get_push (x ∷ xs) y (suc k) r h = get_push xs y k r h

pub shown_set : {V : Type 0} (raw : List (Option (Arc V Global))) (m : ℕ) (a : Arc V Global) → shown (slice_set raw m (Some a)) ≡ slice_set (shown raw) m (Some (arc_value a))
shown_set raw m a = map-set (λ o. option_map (λ (b : Arc _ Global). arc_value b) o) raw m (Some a)

pub shown_none : {V : Type 0} (n : ℕ) → shown {V = V} (replicate n None) ≡ replicate n None
shown_none n = map_none (λ a. arc_value a) n

-- a slice was written whole
pub whole_written : {X : Type 0} (new old : List X) (n : ℕ) → length new ≡ length old → n ≡ length old → take n (new ++ drop (length new) old) ≡ new
whole_written new old n same is =
    ap (take n) (ap (λ t. new ++ t) (drop_all (length new) old (omega (arith, same))) ∙ append-nil new) ∙ take_all n new (omega (arith, same, is))

-- where all are there, they are the values
pub length-values : {V : Type 0} (os : List (Option (Arc V Global))) → list_all (λ o. is_some o) os ≡ true → length (values_of os) ≡ length os
length-values [] h = refl
length-values (None ∷ os) h = absurd (true≢false (sym h))
length-values (Some a ∷ os) h = ap suc (length-values os h)

pub values_there : {V : Type 0} (os : List (Option (Arc V Global))) → list_all (λ o. is_some o) os ≡ true → (m : ℕ) (v : V) → slice_get (values_of os) m ≡ Some v → verdict_at (shown os) m ≡ Some v
values_there [] h m v e = absurd (none_some v e)
values_there (None ∷ os) h m v e = absurd (true≢false (sym h))
values_there (Some a ∷ os) h zero v e = e
values_there (Some a ∷ os) h (suc m) v e = values_there os h m v e

pub value_at : {V : Type 0} (os : List (Option (Arc V Global))) → list_all (λ o. is_some o) os ≡ true → (m : ℕ) (a : Arc V Global) → verdict_at os m ≡ Some a → slice_get (values_of os) m ≡ Some (arc_value a)
value_at [] h m a e = absurd (none_some a e)
value_at (None ∷ os) h m a e = absurd (true≢false (sym h))
value_at (Some b ∷ os) h zero a e = ap (λ x. Some (arc_value x)) (same_some b a e)
value_at (Some b ∷ os) h (suc m) a e = value_at os h m a e

pub none_missing : {V : Type 0} (os : List (Option (Arc V Global))) → list_all (λ o. is_some o) os ≡ true → (m : ℕ) → m < length os → verdict_at os m ≡ None → ⊥
none_missing [] h m l e = absurd (omega arith)
none_missing (None ∷ os) h m l e = absurd (true≢false (sym h))
none_missing (Some b ∷ os) h zero l e = none_some b (sym e)
none_missing (Some b ∷ os) h (suc m) l e = none_missing os h m (omega arith) e
