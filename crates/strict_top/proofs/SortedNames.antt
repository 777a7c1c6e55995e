-- Two lists of names in order that have the same names are one list.
use Rattle.std.proofs.Common.{◌≡◌, ◌&&◌, ◌||◌, ℕ, Bool, true, false, cond, Some, None, List, [], ◌∷◌, map, refl, sym, ap, ◌∙◌, subst, string_bytes, String, Global}
use Rattle.std.specs.Prelude.{T}
use Rattle.std.specs.declared.cmp.Ordering.{Ordering}
use Rattle.std.specs.declared.cmp.Ordering.TheVariants.{Less}
use Rattle.std.specs.Cmp.Lexicographic.{slice_cmp, nat_list_cmp_total}
use Rattle.std.specs.FinMap.{find, is_sorted, nat_cmp-IsAntisymmetric, slice_cmp-IsAntisymmetric}
use Rattle.std.specs.FinMap.Entries.{same_entries, below_all}
use Rattle.std.specs.List.{list_any, AllByRecursion}
use Rattle.std.specs.List.Sorted.{IsStrictlySortedBy}
use Rattle.std.specs.Ordering.{nat_cmp, is_lt, eq_by_cmp}
use Rattle.std.specs.String.{string_cmp}
use Rattle.std.proofs.lemmas.Map.Keys.{sorted_head, sorted_tail}

-- the order of the bytes of names
abbrev pub name_cmp : List ℕ → List ℕ → Ordering
name_cmp = slice_cmp nat_cmp

-- names as the keys of entries
abbrev pub keyed : List (List ℕ) → List (List ℕ × Unit {0})
keyed [] = []
keyed (name ∷ names) = (name, tt) ∷ keyed names

both_hold : (a b : Bool) → T a → T b → T (a && b)
both_hold true b p q = q
both_hold false b p q = p

pub left_holds : (a b : Bool) → T (a && b) → T a
left_holds true b p = tt
left_holds false b p = p

pub right_holds : (a b : Bool) → T (a && b) → T b
right_holds true b p = p
right_holds false b p = absurd p

keys_keyed : (names : List (List ℕ)) → map (λ (e : List ℕ × Unit {0}). e.0) (keyed names) ≡ names
keys_keyed [] = refl
keys_keyed (name ∷ names) = ap (λ ns. name ∷ ns) (keys_keyed names)

find_keyed : (q : List ℕ) (names : List (List ℕ)) → find name_cmp q (keyed names) ≡ cond (list_any (eq_by_cmp name_cmp q) names) (Some tt) None
find_keyed q [] = refl
find_keyed q (name ∷ names) = elim (eq_by_cmp name_cmp q name) as (λ b. cond b (Some tt) (find name_cmp q (keyed names)) ≡ cond (b || list_any (eq_by_cmp name_cmp q) names) (Some tt) None) [ true ↦ refl | false ↦ find_keyed q names ]

pub same_names : (xs ys : List (List ℕ)) → T (is_sorted name_cmp (keyed xs)) → T (is_sorted name_cmp (keyed ys)) →
    ((q : List ℕ) → list_any (eq_by_cmp name_cmp q) xs ≡ list_any (eq_by_cmp name_cmp q) ys) → xs ≡ ys
same_names xs ys xs_sorted ys_sorted same =
    sym (keys_keyed xs)
    ∙ ap (map (λ (e : List ℕ × Unit {0}). e.0)) (same_entries name_cmp nat_list_cmp_total (slice_cmp-IsAntisymmetric nat_cmp-IsAntisymmetric) (keyed xs) (keyed ys) xs_sorted ys_sorted
    (λ q. find_keyed q xs ∙ ap (λ b. cond b (Some tt) None) (same q) ∙ sym (find_keyed q ys)))
    ∙ keys_keyed ys

-- the keys of a set are in order
below_keys : (key : String Global) (keys : List (String Global)) → AllByRecursion (λ other. string_cmp key other ≡ Less) keys → T (below_all name_cmp (string_bytes key) (keyed (map string_bytes keys)))
below_keys key [] below = tt
below_keys key (other ∷ keys) below = both_hold _ _ (subst (λ o. T (is_lt o)) (sym below.0) tt) (below_keys key keys below.1)

pub sorted_keys : (keys : List (String Global)) → IsStrictlySortedBy string_cmp keys → T (is_sorted name_cmp (keyed (map string_bytes keys)))
sorted_keys [] sorted = tt
sorted_keys (key ∷ keys) sorted = both_hold _ _ (below_keys key keys (sorted_head string_cmp key keys sorted)) (sorted_keys keys (sorted_tail string_cmp key keys sorted))

-- and so are those of a map's entries
below_entries : {X : Type 0} (name : List ℕ) (es : List (List ℕ × X)) → T (below_all name_cmp name es) → T (below_all name_cmp name (keyed (map (λ e. e.0) es)))
below_entries name [] below = tt
below_entries name (e ∷ es) below = both_hold _ _ (left_holds _ _ below) (below_entries name es (right_holds _ _ below))

pub sorted_entries : {X : Type 0} (es : List (List ℕ × X)) → T (is_sorted name_cmp es) → T (is_sorted name_cmp (keyed (map (λ e. e.0) es)))
sorted_entries [] sorted = tt
sorted_entries (e ∷ es) sorted = both_hold _ _ (below_entries e.0 es (left_holds _ _ sorted)) (sorted_entries es (right_holds _ _ sorted))
