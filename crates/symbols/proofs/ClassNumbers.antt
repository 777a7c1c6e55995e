-- Numbers of classes.
use Rattle.std.proofs.Common.{◌≡◌, ◌∙◌, ◌+◌, ◌<◌, ◌⊎◌, inl, inr, ℕ, zero, suc, Bool, true, false, List, [], ◌∷◌, ◌++◌, length, take, drop, Option, Some, refl, sym, ap, subst, arith, ◌≤◌, ◌==◌, get_or, append_assoc}
use Rattle.std.proofs.Math.ListN.{set}
use Rattle.std.proofs.lemmas.Bool.{eqb-true, eqb-false}
use Rattle.std.proofs.lemmas.List.{append-nil, drop_all, get_or-set_other, get_or-set_same, length-set, length-take-le, take_more}
use Rattle.std.specs.Prelude.{slice_get}
use Rattle.std.specs.List.{Contains}
use Rattle.std.specs.List.Sorted.{IsPermutation}
use Rattle.std.proofs.lemmas.List.Elements.{Contains-append_left, Contains-push, Contains-push_cases}
use Rattle.std.proofs.lemmas.List.Sorted.{Contains-permutation, IsPermutation-sym}
use Rattle.std.proofs.lemmas.Option.{get_or_from_slice_get, slice_get-get_or, slice_get_within}
use Rattle.symbols.specs.declared.class.BasePlace.{BasePlace}
use Rattle.symbols.specs.declared.class.BasePlace.TheVariants as place
use Rattle.symbols.specs.declared.class.ClassKind.{ClassKind}
use Rattle.symbols.specs.declared.class.OwnClass.{OwnClass}
use Rattle.symbols.specs.BasePlaces.{earlier_bound, imported_bound, is_bad_place}
use Rattle.symbols.specs.declared.class_list.FoundClasses.{FoundClasses}
use Rattle.symbols.specs.BaseKinds as base
use Rattle.symbols.specs.Classes.{Found, base_or, is_bad, kind_of_found}
use Rattle.symbols.specs.ClassOrders.{IsOrder}
use Rattle.symbols.specs.ClassViews.{base_at, founds, joined}
use Rattle.symbols.specs.Faults.{bad_lines, clash_lines}
use Rattle.symbols.specs.Lineages.{clash_at, clash_of}
use Rattle.symbols.specs.SpecialNames.{at}
use Rattle.symbols.proofs.ClassLists.{length-joined_behind}
use Rattle.symbols.proofs.Descents.{found_get}
use Rattle.symbols.proofs.ImportedKinds.{there}

lt_or_eq : (a b : ℕ) → a < b + 1 → (a < b) ⊎ (a ≡ b)
lt_or_eq zero zero g = inr refl
lt_or_eq zero (suc b) g = inl (omega arith)
lt_or_eq (suc a) zero g = absurd (omega (arith, g))
lt_or_eq (suc a) (suc b) g = elim (lt_or_eq a b (omega (arith, g))) [ inl l ↦ inl (omega (arith, l)) | inr e ↦ inr (ap suc e) ]

pub order-push : (n : ℕ) (xs : List ℕ) → IsOrder n xs → IsOrder (n + 1) (xs ++ n ∷ [])
order-push n xs order number = (
  λ h. elim (lt_or_eq number n h) [
    | inl lt ↦ Contains-append_left xs (n ∷ []) number ((order number).0 lt)
    | inr e ↦ subst (Contains (xs ++ n ∷ [])) (sym e) (Contains-push xs n)
  ],
  λ has. elim (Contains-push_cases xs n number has) [
    | inl there ↦ let lt = (order number).1 there in omega (arith, lt)
    | inr e ↦ omega (arith, e)
  ],
)

pub order-permutation : (n : ℕ) (xs ys : List ℕ) → IsPermutation xs ys → IsOrder n xs → IsOrder n ys
order-permutation n xs ys p order number = (
  λ h. Contains-permutation xs ys number p ((order number).0 h),
  λ has. (order number).1 (Contains-permutation ys xs number (IsPermutation-sym xs ys p) has),
)

drop-at : {X : Type 0} (xs : List X) (i : ℕ) (x : X) → slice_get xs i ≡ Some x → drop i xs ≡ x ∷ drop (i + 1) xs
drop-at [] i x e = cc (e)
drop-at {X} (y ∷ xs) zero x e = let same : y ≡ x = some_is e in ap (λ (z : X). z ∷ xs) same
  where
    some_is : Some y ≡ Some x → y ≡ x
    some_is f = cc (f)
drop-at {X} (y ∷ xs) (suc i) x e = drop-at xs i x e ∙ ap (λ n. x ∷ drop n (y ∷ xs)) (more i)
  where
    more : (n : ℕ) → suc (n + 1) ≡ suc n + 1
    more n = omega arith

-- a class that was found, with its own members
pub found_own : (all : FoundClasses) (n : ℕ) (c : OwnClass) → slice_get all.own n ≡ Some c → slice_get (founds all) n ≡ Some (joined all.home all.others (take n (founds all)) c)
found_own all n c e = found_get all.home all.others all.own [] n c e

pub clash_lines-at : (all : FoundClasses) (n : ℕ) (c : OwnClass) → slice_get all.own n ≡ Some c → clash_lines (drop n (founds all)) ≡ at c.line (clash_at all (place.Earlier n)) ++ clash_lines (drop (n + 1) (founds all))
clash_lines-at all n c e =
    let f = found_own all n c e in
    ap clash_lines (drop-at (founds all) n (joined all.home all.others (take n (founds all)) c) f)
    ∙ ap (λ (o : Option Found). at c.line (clash_of (base_or (kind_of_found o) base.Bad)) ++ clash_lines (drop (n + 1) (founds all))) (sym f)

-- a base that was found is one unless it stands nowhere
bad_is : (others : List ClassKind) (before : List Found) (p : BasePlace) → earlier_bound p ≤ length before → imported_bound p ≤ length others → is_bad (base_at others before p) ≡ is_bad_place p
bad_is others before place.None h k = refl
bad_is others before (place.Earlier m) h k = let f = there before m (omega (arith, h)) in ap (λ (o : Option Found). is_bad (base_or (kind_of_found o) base.Bad)) f.1
bad_is others before (place.Imported m) h k = let f = there others m (omega (arith, k)) in ap (λ (o : Option ClassKind). is_bad (base_or o base.Bad)) f.1
bad_is others before (place.Exception kind) h k = refl
bad_is others before place.Bad h k = refl

pub bad_lines-at : (all : FoundClasses) (n : ℕ) (c : OwnClass) → slice_get all.own n ≡ Some c → bad_lines (drop n (founds all)) ≡ at c.line (is_bad_place c.base) ++ bad_lines (drop (n + 1) (founds all))
bad_lines-at all n c e =
    let f = found_own all n c e in
    let within : n < length all.own = slice_get_within all.own n c e in
    let count : length (founds all) ≡ length all.own = length-joined_behind all.home all.others all.own [] in
    let before : length (take n (founds all)) ≡ n = length-take-le n (founds all) (omega (arith, within, count)) in
    let p = all.placed n c e in
    let p0 = p.0 in
    let p1 = p.1 in
    ap bad_lines (drop-at (founds all) n (joined all.home all.others (take n (founds all)) c) f)
    ∙ ap (λ b. at c.line b ++ bad_lines (drop (n + 1) (founds all))) (bad_is all.others (take n (founds all)) c.base (omega (arith, p0, before)) p1)

pub lines_step : (lines now some rest whole : List ℕ) → now ≡ lines ++ some → lines ++ (some ++ rest) ≡ whole → now ++ rest ≡ whole
lines_step lines now some rest whole e h = ap (λ xs. xs ++ rest) e ∙ (append_assoc lines some rest ∙ h)

-- behind the last class there are no more lines
pub lines_end : (all : FoundClasses) (i : ℕ) (f : List Found → List ℕ) (lines whole : List ℕ) → length all.own ≤ i → f [] ≡ [] → lines ++ f (drop i (founds all)) ≡ whole → lines ≡ whole
lines_end all i f lines whole h none e =
    let count : length (founds all) ≡ length all.own = length-joined_behind all.home all.others all.own [] in
    sym (append-nil lines) ∙ (ap (λ xs. lines ++ xs) (sym none ∙ ap f (sym (drop_all i (founds all) (omega (arith, h, count))))) ∙ e)

pub at_item : {X : Type 0} (xs : List X) (i : ℕ) (x : X) → i < length xs → x ≡ get_or xs i x → slice_get xs i ≡ Some x
at_item xs i x h e = slice_get-get_or xs i x h ∙ ap Some (sym e)

-- ---- flags

flag_set : (flags : List Bool) (m n : ℕ) (v w : Bool) → m < length flags → slice_get flags n ≡ Some w → (n ≡ m → w ≡ v) → slice_get (set flags m v) n ≡ Some w
flag_set flags m n v w h e same = by (n == m) refl
  where
    by : (b : Bool) → (n == m) ≡ b → slice_get (set flags m v) n ≡ Some w
    by true t =
        let is : n ≡ m = eqb-true n m t in
        ap (slice_get (set flags m v)) is ∙ (slice_get-get_or (set flags m v) m v (rw (length-set flags m v) h) ∙ (ap Some (get_or-set_same flags m v v h) ∙ ap Some (sym (same is))))
    by false t =
        let within : n < length flags = slice_get_within flags n w e in
        slice_get-get_or (set flags m v) n w (rw (length-set flags m v) within) ∙ (ap Some (get_or-set_other flags m n v w (eqb-false n m t)) ∙ ap Some (get_or_from_slice_get flags n w w e))

flag_here : (flags : List Bool) (m : ℕ) (v : Bool) → m < length flags → slice_get (set flags m v) m ≡ Some v
flag_here flags m v h = slice_get-get_or (set flags m v) m v (rw (length-set flags m v) h) ∙ ap Some (get_or-set_same flags m v v h)

pub each-step : (all : FoundClasses) (order : List ℕ) (i : ℕ) (flags : List Bool) (v : Bool) → i < length order → get_or order i 0 < length flags → v ≡ clash_at all (place.Earlier (get_or order i 0))
    → ((n : ℕ) → Contains (take i order) n → slice_get flags n ≡ Some (clash_at all (place.Earlier n)))
    → (n : ℕ) → Contains (take (i + 1) order) n → slice_get (set flags (get_or order i 0) v) n ≡ Some (clash_at all (place.Earlier n))
each-step all order i flags v lt within is each n has =
    let m = get_or order i 0 in
    elim (Contains-push_cases (take i order) m n (subst (λ (xs : List ℕ). Contains xs n) (take_more order i 0 lt) has)) [
      | inl there ↦ flag_set flags m n v (clash_at all (place.Earlier n)) within (each n there) (λ (e : n ≡ m). ap (λ k. clash_at all (place.Earlier k)) e ∙ sym is)
      | inr e ↦ subst (λ (k : ℕ). slice_get (set flags m v) k ≡ Some (clash_at all (place.Earlier k))) e (flag_here flags m v within ∙ ap Some is)
    ]
