-- The classes that own members stand for, with one class more.
use Rattle.std.proofs.Common.{◌≡◌, ◌∙◌, ◌+◌, ◌<◌, ◌≤◌, ℕ, Bool, true, false, not, ◌&&◌, zero, suc, List, [], ◌∷◌, ◌++◌, length, filter, Option, Some, None, refl, sym, ap, subst, append_assoc, arith, ◌⊎◌, inl, inr}
use Rattle.std.specs.Prelude.{slice_get}
use Rattle.std.proofs.lemmas.List.{append-nil, length-map}
use Rattle.std.proofs.lemmas.Slice.Eq.{bytes_eq-Decides}
use Rattle.std.specs.Str.{bytes_eq}
use Rattle.std.specs.List.{flat_map}
use Rattle.std.specs.Option.{option_map, option_or}
use Rattle.std.proofs.lemmas.Option.{slice_get-map, slice_get_within}
use Rattle.py_tree.specs.Syntax.{Text}
use Rattle.symbols.specs.declared.class.ClassKind.{ClassKind}
use Rattle.symbols.specs.declared.class.OwnClass.{OwnClass}
use Rattle.symbols.specs.declared.outer.Outer.{Outer}
use Rattle.symbols.specs.Bindings.{first_mentions}
use Rattle.symbols.specs.Names.{with_names}
use Rattle.symbols.proofs.Sets.{filter-filter, is_new, with_names-is, with_names_both}
use Rattle.symbols.specs.declared.class.BasePlace.TheVariants as place
use Rattle.symbols.specs.BaseKinds as base
use Rattle.symbols.specs.BaseKinds.{Base}
use Rattle.py_tree.specs.Syntax as x
use Rattle.py_tree.specs.Syntax.{ClassDef, Statement}
use Rattle.py_tree.specs.Order.{of_scope}
use Rattle.py_values.specs.declared.class_id.ClassId.TheVariants as id
use Rattle.symbols.specs.BasePlaces.{ArePlaced, IsPlaced}
use Rattle.symbols.specs.Classes.{Found, base_id, base_methods, base_of, base_or, base_slots, body_of, class_behind, class_below, class_kind, classes_behind, earlier_class, is_bad, kind_of_found, method_names, name_of, named_base, outer_kind, own_base, own_slots, written_base}
use Rattle.symbols.specs.Places.{IsPlace}
use Rattle.symbols.proofs.ImportedKinds.{there}
use Rattle.symbols.specs.ClassViews.{IsBase, StandsAt, Tabled, base_at, found_at, joined_last, joined, joined_behind, found_in, kinds_found, kinds_of}

pub joined_behind-append : (home : ℕ) (others : List ClassKind) (own more : List OwnClass) (earlier : List Found) → joined_behind home others earlier (own ++ more) ≡ joined_behind home others earlier own ++ joined_behind home others (earlier ++ joined_behind home others earlier own) more
joined_behind-append home others [] more earlier = ap (λ e. joined_behind home others e more) (sym (append-nil earlier))
joined_behind-append home others (c ∷ own) more earlier =
    let f = joined home others earlier c in
    ap (λ rest. f ∷ rest) (joined_behind-append home others own more (earlier ++ f ∷ []) ∙ ap (λ e. joined_behind home others (earlier ++ f ∷ []) own ++ joined_behind home others e more) (append_assoc earlier (f ∷ []) (joined_behind home others (earlier ++ f ∷ []) own)))

pub found_in-push : (o : Outer) (own : List OwnClass) (c : OwnClass) → found_in o (own ++ c ∷ []) ≡ found_in o own ++ joined o.number (kinds_of o.bindings) (found_in o own) c ∷ []
found_in-push o own c = joined_behind-append o.number (kinds_of o.bindings) own (c ∷ []) []

pub length-joined_behind : (home : ℕ) (others : List ClassKind) (own : List OwnClass) (earlier : List Found) → length (joined_behind home others earlier own) ≡ length own
length-joined_behind home others [] earlier = refl
length-joined_behind home others (c ∷ own) earlier = ap suc (length-joined_behind home others own (earlier ++ joined home others earlier c ∷ []))

-- ---- each name once, and once again

not_twice : (name : List ℕ) (p : List ℕ → Bool) → p name ≡ false → (x : List ℕ) → (not (bytes_eq name x) && p x) ≡ p x
not_twice name p e x = by (bytes_eq name x) refl
  where
    by : (b : Bool) → bytes_eq name x ≡ b → (not (bytes_eq name x) && p x) ≡ p x
    by true same = rw same (sym (subst (λ n. p n ≡ false) ((bytes_eq-Decides name x).0 same) e))
    by false apart = rw apart refl

filter_swap : (p q : List ℕ → Bool) (xs : List (List ℕ)) → filter p (filter q xs) ≡ filter q (filter p xs)
filter_swap p q xs = filter-filter p q (λ x. q x && p x) (λ x. refl) xs ∙ sym (filter-filter q p (λ x. q x && p x) (λ x. either (p x) (q x)) xs)
  where
    either : (a b : Bool) → (a && b) ≡ (b && a)
    either true true = refl
    either true false = refl
    either false true = refl
    either false false = refl

both_so : (a : Bool) → (a && a) ≡ a
both_so true = refl
both_so false = refl

first_mentions-filter : (p : List ℕ → Bool) (xs : List (List ℕ)) → first_mentions (filter p xs) ≡ filter p (first_mentions xs)
first_mentions-filter p [] = refl
first_mentions-filter p (x ∷ xs) = by (p x) refl (first_mentions-filter p xs)
  where
    by : (b : Bool) → p x ≡ b → first_mentions (filter p xs) ≡ filter p (first_mentions xs) → first_mentions (filter p (x ∷ xs)) ≡ filter p (first_mentions (x ∷ xs))
    by true e rest = rw (e, rest) (ap (λ ys. x ∷ ys) (filter_swap (λ other. not (bytes_eq x other)) p (first_mentions xs)))
    by false e rest = rw (e, rest) (sym (filter-filter p (λ other. not (bytes_eq x other)) p (not_twice x p e) (first_mentions xs)))

pub first_mentions-again : (xs : List (List ℕ)) → first_mentions (first_mentions xs) ≡ first_mentions xs
first_mentions-again [] = refl
first_mentions-again (x ∷ xs) =
    let q : List ℕ → Bool = λ other. not (bytes_eq x other) in
    ap (λ ys. x ∷ filter q ys) (first_mentions-filter q (first_mentions xs) ∙ ap (filter q) (first_mentions-again xs))
    ∙ ap (λ ys. x ∷ ys) (filter-filter q q q (λ y. both_so (q y)) (first_mentions xs))

pub first_mentions-behind : (held xs : List (List ℕ)) → first_mentions (held ++ first_mentions xs) ≡ first_mentions (held ++ xs)
first_mentions-behind held xs =
    sym (with_names_both held (first_mentions xs))
    ∙ (with_names-is (first_mentions xs) (with_names [] held)
    ∙ (ap (λ ys. with_names [] held ++ filter (is_new (with_names [] held)) ys) (first_mentions-again xs)
    ∙ (sym (with_names-is xs (with_names [] held)) ∙ with_names_both held xs)))

-- ---- where bases stand, with one class more

pub slice_get-push : {X : Type 0} (xs : List X) (x y : X) (i : ℕ) → slice_get (xs ++ x ∷ []) i ≡ Some y → (slice_get xs i ≡ Some y) ⊎ ((i ≡ length xs) × (y ≡ x))
slice_get-push [] x y zero e = inr (refl, cc (e))
slice_get-push [] x y (suc i) e = cc (e)
slice_get-push (z ∷ xs) x y zero e = inl e
slice_get-push (z ∷ xs) x y (suc i) e = elim (slice_get-push xs x y i e) [ inl f ↦ inl f | inr f ↦ inr (ap suc f.0, f.1) ]

pub placed-push : (others : List ClassKind) (own : List OwnClass) (c : OwnClass) → ArePlaced others own → IsPlaced (length others) (length own) c.base → ArePlaced others (own ++ c ∷ [])
placed-push others own c placed last number d e = elim (slice_get-push own c d number e) [
  | inl f ↦ placed number d f
  | inr f ↦ subst (λ (x : OwnClass). IsPlaced (length others) number x.base) (sym f.1) (subst (λ n. IsPlaced (length others) n c.base) (sym f.0) last)
]

pub number_stands : (all : List Found) (name : Text) (o : Option ℕ) → IsPlace (λ x. bytes_eq name x.class.name) all o → StandsAt (kinds_found all) (earlier_class all name) o
number_stands all name None e = ap kind_of_found e
number_stands all name (Some i) (h, e) = let f : (x : Found) × (slice_get all i ≡ Some x) = there all i h in ((f.0).class.kind, (ap kind_of_found (e ∙ f.1), slice_get-map (λ (x : Found). x.class.kind) all i ∙ ap (option_map (λ (x : Found). x.class.kind)) f.1))

-- ---- the place of a base

pub kind_of_found-map : (all : List Found) (i : ℕ) → kind_of_found (slice_get all i) ≡ slice_get (kinds_found all) i
kind_of_found-map [] i = refl
kind_of_found-map (f ∷ all) zero = refl
kind_of_found-map (f ∷ all) (suc i) = kind_of_found-map all i

pub is_earlier : (t : Tabled) (name : Text) (number : ℕ) → StandsAt (kinds_found (found_at t)) (earlier_class (found_at t) name) (Some number) → IsBase t (named_base t.outer (found_at t) name) (place.Earlier number)
is_earlier t name number (kind, (wanted, at)) =
    let here : kind_of_found (slice_get (found_at t) number) ≡ Some kind = kind_of_found-map (found_at t) number ∙ at in
    let within : number < length (kinds_found (found_at t)) = slice_get_within (kinds_found (found_at t)) number kind at in
    record {
      is = ap (λ o. base_or o base.Bad) here ∙ sym (ap (λ o. base_or (option_or o (class_kind (outer_kind t.outer name))) (own_base name)) wanted);
      placed = (
        subst (λ n. number + 1 ≤ n) (length-map (found_at t) (λ (f : Found). f.class.kind) ∙ length-joined_behind t.outer.number (kinds_of t.outer.bindings) t.own []) (omega (arith, within)),
        omega arith,
      );
    }

pub is_imported : (t : Tabled) (o : Option ClassKind) (other : Base) (number : ℕ) {wanted : Option ClassKind} → StandsAt (kinds_of t.outer.bindings) wanted (Some number) → o ≡ wanted → IsBase t (base_or o other) (place.Imported number)
is_imported t o other number {wanted} (kind, (is, at)) same =
    let within : number < length (kinds_of t.outer.bindings) = slice_get_within (kinds_of t.outer.bindings) number kind at in
    record { is = ap (λ x. base_or x base.Bad) at ∙ sym (ap (λ x. base_or x other) (same ∙ is)); placed = (omega arith, omega (arith, within)) }

-- a class with members that stand once each is the class of its body
pub joined_is : (t : Tabled) (c : OwnClass) (line : ℕ) (def : ClassDef) → c.name ≡ name_of def → c.line ≡ line → base_at (kinds_of t.outer.bindings) (found_at t) c.base ≡ base_of t.outer (found_at t) (written_base def) → c.slots ≡ first_mentions (own_slots (of_scope (body_of def))) → c.methods ≡ first_mentions (flat_map method_names (of_scope (body_of def)))
    → joined_last t c ≡ class_behind t.outer (found_at t) line def
joined_is t c line (x.Classed name written body) named lined based slots methods =
    let b = base_of t.outer (found_at t) written in
    let ns = own_slots (of_scope body) in
    let ms = flat_map method_names (of_scope body) in
    let number = id.User t.outer.number (length (found_at t)) in
    (λ i. class_below number (based i) (lined i) (named i) (slots i) (methods i))
    ∙ (λ i. record {
      class = record {
        name = name;
        line = line;
        base = base_id b;
        kind = record { id = number; slots = first_mentions-behind (base_slots b) ns i; methods = first_mentions-behind (base_methods b) ms i };
        methods = first_mentions-again ms i;
      };
      is_bad = is_bad b;
    })

pub behind_step : (o : Outer) (before after : List Found) (f : Found) (line : ℕ) (def : ClassDef) → after ≡ before ++ f ∷ [] → f ≡ class_behind o before line def → (rest : List Statement)
    → after ++ classes_behind o after rest ≡ before ++ classes_behind o before (x.On line (x.Class def) ∷ rest)
behind_step o before after f line def added is rest =
    let all : after ≡ before ++ class_behind o before line def ∷ [] = added ∙ ap (λ (g : Found). before ++ g ∷ []) is in
    ap (λ (fs : List Found). fs ++ classes_behind o fs rest) all ∙ append_assoc before (class_behind o before line def ∷ []) (classes_behind o (before ++ class_behind o before line def ∷ []) rest)
