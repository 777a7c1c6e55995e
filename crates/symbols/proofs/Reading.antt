-- A class with its bases, read by the classes above it.
use Rattle.std.proofs.Common.{◌≡◌, ◌∙◌, ◌<◌, ◌≤◌, ◌||◌, ℕ, Bool, true, false, List, [], ◌∷◌, ◌++◌, length, take, Option, Some, None, refl, sym, ap, subst, arith}
use Rattle.std.specs.Prelude.{slice_get}
use Rattle.std.specs.Option.{option_map}
use Rattle.std.specs.Str.{bytes_eq}
use Rattle.std.proofs.lemmas.List.{length-map, length-take-le}
use Rattle.std.proofs.lemmas.Option.{slice_get-map, slice_get_past, slice_get_within}
use Rattle.py_tree.specs.Syntax.{Text}
use Rattle.py_values.specs.declared.class_id.ClassId.TheVariants as id
use Rattle.symbols.specs.declared.class.BasePlace.{BasePlace}
use Rattle.symbols.specs.declared.class.BasePlace.TheVariants as place
use Rattle.symbols.specs.declared.class.Class.{Class}
use Rattle.symbols.specs.declared.class.ClassKind.{ClassKind}
use Rattle.symbols.specs.declared.class.OwnClass.{OwnClass}
use Rattle.symbols.specs.declared.class_list.FoundClasses.{FoundClasses}
use Rattle.symbols.specs.BaseKinds as base
use Rattle.symbols.specs.BasePlaces.{earlier_bound, is_class, standing}
use Rattle.symbols.specs.Bindings.{first_mentions}
use Rattle.symbols.specs.Classes.{Found, base_id, base_methods, base_or, base_slots, classes_in, kind_of_found}
use Rattle.symbols.specs.ClassViews.{base_at, founds, joined}
use Rattle.symbols.specs.Lineages.{Climbs, above, base_of_own, kind_of, methods_at, methods_of_own, slots_at, slots_of_own}
use Rattle.symbols.specs.Names.{with_names}
use Rattle.symbols.specs.Words.{among}
use Rattle.symbols.proofs.ClassLists.{first_mentions-again, length-joined_behind}
use Rattle.symbols.proofs.ClassNumbers.{found_own}
use Rattle.symbols.proofs.Descents.{base_before, climbs-last, extends, found_none, slice_get-take}
use Rattle.symbols.proofs.ImportedKinds.{there}
use Rattle.symbols.proofs.Sets.{with_names_both, with_names_first}

-- the place above those that are climbed
abbrev pub top_of : FoundClasses → BasePlace → List BasePlace → BasePlace
top_of all p [] = p
top_of all p (q ∷ rest) = top_of all (above all q) rest

pub climbs_top : (all : FoundClasses) (ps : List BasePlace) (p top : BasePlace) → Climbs all p ps top → top ≡ top_of all p ps
climbs_top all [] p top e = sym e
climbs_top all (q ∷ ps) p top (e, rest) = climbs_top all ps (above all q) top rest

pub climbs_next : (all : FoundClasses) (ps init : List BasePlace) (p q : BasePlace) → ps ≡ init ++ q ∷ [] → Climbs all p ps (top_of all p ps) → Climbs all p init (top_of all p init) × ((q ≡ top_of all p init) × (above all q ≡ top_of all p ps))
climbs_next all ps init p q e c =
    let r = climbs-last all init p q (top_of all p ps) (subst (λ (xs : List BasePlace). Climbs all p xs (top_of all p ps)) e c) in
    let at = climbs_top all init p q r.0 in
    (subst (Climbs all p init) at r.0, (at, r.1))

-- the members of a class, each once
record Members (all : FoundClasses) (p : BasePlace) : Type 0 where
  slots : first_mentions (base_slots (kind_of all p)) ≡ first_mentions (base_slots (kind_of all (above all p)) ++ slots_at all p)
  methods : first_mentions (base_methods (kind_of all p)) ≡ first_mentions (base_methods (kind_of all (above all p)) ++ methods_at all p)

abbrev MembersBy : FoundClasses → Option Found → Option OwnClass → Type 0
MembersBy all f c =
    (first_mentions (base_slots (base_or (kind_of_found f) base.Bad)) ≡ first_mentions (base_slots (kind_of all (base_of_own c)) ++ slots_of_own c))
    × (first_mentions (base_methods (base_or (kind_of_found f) base.Bad)) ≡ first_mentions (base_methods (kind_of all (base_of_own c)) ++ methods_of_own c))

members_own : (all : FoundClasses) (n : ℕ) (o : Option OwnClass) → slice_get all.own n ≡ o → MembersBy all (slice_get (founds all) n) o
members_own all n None e = subst (λ (f : Option Found). MembersBy all f None) (sym (found_none all.home all.others all.own [] n e)) (refl, refl)
members_own all n (Some c) e =
    let fs = founds all in
    let b = base_before all.others fs n c.base (all.placed n c e).0 in
    subst (λ (f : Option Found). MembersBy all f (Some c)) (sym (found_own all n c e)) (
      first_mentions-again (base_slots (base_at all.others (take n fs) c.base) ++ c.slots) ∙ ap (λ (xs : List Text). first_mentions (xs ++ c.slots)) b.0,
      first_mentions-again (base_methods (base_at all.others (take n fs) c.base) ++ c.methods) ∙ ap (λ (xs : List Text). first_mentions (xs ++ c.methods)) b.1,
    )

members_other : (all : FoundClasses) (n : ℕ) (o : Option ClassKind) → slice_get all.others n ≡ o → Members all (place.Imported n)
members_other all n None e = record { slots = rw e refl; methods = rw e refl }
members_other all n (Some c) e = record { slots = rw e refl; methods = rw e refl }

members : (all : FoundClasses) (p : BasePlace) → Members all p
members all place.None = record { slots = refl; methods = refl }
members all (place.Earlier n) = let m = members_own all n (slice_get all.own n) refl in record { slots = m.0; methods = m.1 }
members all (place.Imported n) = members_other all n (slice_get all.others n) refl
members all (place.Exception kind) = record { slots = refl; methods = refl }
members all place.Bad = record { slots = refl; methods = refl }

pub slots_step : (all : FoundClasses) (q top below : BasePlace) (names now own : List Text) → above all q ≡ top → q ≡ below → own ≡ slots_at all q → names ≡ first_mentions (base_slots (kind_of all top)) → now ≡ with_names names own → now ≡ first_mentions (base_slots (kind_of all below))
slots_step all q top below names now own up is adds held e =
    e
    ∙ ((λ i. with_names ((held ∙ (ap (λ p. first_mentions (base_slots (kind_of all p))) (sym up) ∙ sym (with_names_first (base_slots (kind_of all (above all q)))))) i) (adds i))
    ∙ (with_names_both (base_slots (kind_of all (above all q))) (slots_at all q) ∙ (sym (members all q).slots ∙ ap (λ p. first_mentions (base_slots (kind_of all p))) is)))

pub methods_step : (all : FoundClasses) (q top below : BasePlace) (names now own : List Text) → above all q ≡ top → q ≡ below → own ≡ methods_at all q → names ≡ first_mentions (base_methods (kind_of all top)) → now ≡ with_names names own → now ≡ first_mentions (base_methods (kind_of all below))
methods_step all q top below names now own up is adds held e =
    e
    ∙ ((λ i. with_names ((held ∙ (ap (λ p. first_mentions (base_methods (kind_of all p))) (sym up) ∙ sym (with_names_first (base_methods (kind_of all (above all q)))))) i) (adds i))
    ∙ (with_names_both (base_methods (kind_of all (above all q))) (methods_at all q) ∙ (sym (members all q).methods ∙ ap (λ p. first_mentions (base_methods (kind_of all p))) is)))

-- ---- names of classes

pub earlier_named : (all : FoundClasses) (n : ℕ) → n < length all.own → base_id (kind_of all (place.Earlier n)) ≡ Some (id.User all.home n)
earlier_named all n h =
    let c = there all.own n h in
    let count : length (founds all) ≡ length all.own = length-joined_behind all.home all.others all.own [] in
    let before : length (take n (founds all)) ≡ n = length-take-le n (founds all) (omega (arith, h, count)) in
    ap (λ (o : Option Found). base_id (base_or (kind_of_found o) base.Bad)) (found_own all n c.0 c.1) ∙ ap (λ m. Some (id.User all.home m)) before

pub earlier_none : (all : FoundClasses) (n : ℕ) → length all.own ≤ n → base_id (kind_of all (place.Earlier n)) ≡ None
earlier_none all n h =
    let count : length (founds all) ≡ length all.own = length-joined_behind all.home all.others all.own [] in
    ap (λ (o : Option Found). base_id (base_or (kind_of_found o) base.Bad)) (slice_get_past (founds all) n (omega (arith, h, count)))

base_named : (others : List ClassKind) (found : List Found) (n : ℕ) (p : BasePlace) → earlier_bound p ≤ n → base_id (base_at others (take n found) p) ≡ base_id (base_at others found (standing p))
base_named others found n place.None h = refl
base_named others found n (place.Earlier m) h = ap (λ (o : Option Found). base_id (base_or (kind_of_found o) base.Bad)) (slice_get-take found n m (omega (arith, h)))
base_named others found n (place.Imported m) h = refl
base_named others found n (place.Exception kind) h = refl
base_named others found n place.Bad h = refl

-- ---- a class whole

pub class_is : (all : FoundClasses) (n : ℕ) (c : OwnClass) (made : Class) → slice_get all.own n ≡ Some c → made.name ≡ c.name → made.line ≡ c.line → made.base ≡ base_id (kind_of all (above all (place.Earlier n))) → made.kind.id ≡ id.User all.home n
    → made.kind.slots ≡ first_mentions (base_slots (kind_of all (place.Earlier n))) → made.kind.methods ≡ first_mentions (base_methods (kind_of all (place.Earlier n))) → made.methods ≡ first_mentions c.methods → slice_get (classes_in (founds all)) n ≡ Some made
class_is all n c made at named lined based is slots methods own =
    let fs = founds all in
    let f = joined all.home all.others (take n fs) c in
    let found : slice_get fs n ≡ Some f = found_own all n c at in
    let within : n < length all.own = slice_get_within all.own n c at in
    let count : length fs ≡ length all.own = length-joined_behind all.home all.others all.own [] in
    let before : length (take n fs) ≡ n = length-take-le n fs (omega (arith, within, count)) in
    let b = base_at all.others (take n fs) c.base in
    let base_of : made.base ≡ base_id b = based ∙ (ap (λ o. base_id (kind_of all (base_of_own o))) at ∙ sym (base_named all.others fs n c.base (all.placed n c at).0)) in
    let all_slots : made.kind.slots ≡ first_mentions (base_slots b ++ c.slots) = slots ∙ (ap (λ (o : Option Found). first_mentions (base_slots (base_or (kind_of_found o) base.Bad))) found ∙ first_mentions-again (base_slots b ++ c.slots)) in
    let all_methods : made.kind.methods ≡ first_mentions (base_methods b ++ c.methods) = methods ∙ (ap (λ (o : Option Found). first_mentions (base_methods (base_or (kind_of_found o) base.Bad))) found ∙ first_mentions-again (base_methods b ++ c.methods)) in
    slice_get-map (λ (x : Found). x.class) fs n
    ∙ (ap (option_map (λ (x : Found). x.class)) found
    ∙ (λ i. Some (record {
      name = sym named i;
      line = sym lined i;
      base = sym base_of i;
      kind = record { id = (ap (id.User all.home) before ∙ sym is) i; slots = sym all_slots i; methods = sym all_methods i };
      methods = sym own i;
    })))

-- ---- a name along the bases

not_class : (p : BasePlace) → is_class p ≡ false → p ≡ place.None
not_class place.None h = refl
not_class (place.Earlier n) h = cc (h)
not_class (place.Imported n) h = cc (h)
not_class (place.Exception kind) h = cc (h)
not_class place.Bad h = cc (h)

or-true : (a : Bool) → (a || true) ≡ true
or-true true = refl
or-true false = refl

or-none : (a : Bool) → (a || false) ≡ a
or-none true = refl
or-none false = refl

pub slot_here : (all : FoundClasses) (p : BasePlace) (name : Text) → among name (slots_at all p) ≡ true → true ≡ among name (base_slots (kind_of all p))
slot_here all p name h = sym ((extends all p).slots (bytes_eq name) ∙ (ap (λ b. among name (base_slots (kind_of all (above all p))) || b) h ∙ or-true (among name (base_slots (kind_of all (above all p))))))

pub slot_above : (all : FoundClasses) (p : BasePlace) (name : Text) → among name (slots_at all p) ≡ false → among name (base_slots (kind_of all (above all p))) ≡ among name (base_slots (kind_of all p))
slot_above all p name h = sym ((extends all p).slots (bytes_eq name) ∙ (ap (λ b. among name (base_slots (kind_of all (above all p))) || b) h ∙ or-none (among name (base_slots (kind_of all (above all p))))))

pub slot_nowhere : (all : FoundClasses) (p : BasePlace) (name : Text) → is_class p ≡ false → false ≡ among name (base_slots (kind_of all p))
slot_nowhere all p name h = sym (ap (λ q. among name (base_slots (kind_of all q))) (not_class p h))

pub method_here : (all : FoundClasses) (p : BasePlace) (name : Text) → among name (methods_at all p) ≡ true → true ≡ among name (base_methods (kind_of all p))
method_here all p name h = sym ((extends all p).methods (bytes_eq name) ∙ (ap (λ b. among name (base_methods (kind_of all (above all p))) || b) h ∙ or-true (among name (base_methods (kind_of all (above all p))))))

pub method_above : (all : FoundClasses) (p : BasePlace) (name : Text) → among name (methods_at all p) ≡ false → among name (base_methods (kind_of all (above all p))) ≡ among name (base_methods (kind_of all p))
method_above all p name h = sym ((extends all p).methods (bytes_eq name) ∙ (ap (λ b. among name (base_methods (kind_of all (above all p))) || b) h ∙ or-none (among name (base_methods (kind_of all (above all p))))))

pub method_nowhere : (all : FoundClasses) (p : BasePlace) (name : Text) → is_class p ≡ false → false ≡ among name (base_methods (kind_of all p))
method_nowhere all p name h = sym (ap (λ q. among name (base_methods (kind_of all q))) (not_class p h))

pub count_is : (all : FoundClasses) → length (classes_in (founds all)) ≡ length all.own
count_is all = length-map (founds all) (λ (f : Found). f.class) ∙ length-joined_behind all.home all.others all.own []

pub slots_are : (all : FoundClasses) (n : ℕ) (name : Text) (has : Bool) → n < length (classes_in (founds all)) → has ≡ among name (base_slots (kind_of all (place.Earlier n))) → option_map (λ (x : Class). among name x.kind.slots) (slice_get (classes_in (founds all)) n) ≡ Some has
slots_are all n name has h e =
    let f = there (founds all) n (subst (λ m. n < m) (length-map (founds all) (λ (x : Found). x.class)) h) in
    ap (option_map (λ (x : Class). among name x.kind.slots)) (slice_get-map (λ (x : Found). x.class) (founds all) n ∙ ap (option_map (λ (x : Found). x.class)) f.1)
    ∙ ap Some (sym (e ∙ ap (λ (o : Option Found). among name (base_slots (base_or (kind_of_found o) base.Bad))) f.1))

pub methods_are : (all : FoundClasses) (n : ℕ) (name : Text) (has : Bool) → n < length (classes_in (founds all)) → has ≡ among name (base_methods (kind_of all (place.Earlier n))) → option_map (λ (x : Class). among name x.kind.methods) (slice_get (classes_in (founds all)) n) ≡ Some has
methods_are all n name has h e =
    let f = there (founds all) n (subst (λ m. n < m) (length-map (founds all) (λ (x : Found). x.class)) h) in
    ap (option_map (λ (x : Class). among name x.kind.methods)) (slice_get-map (λ (x : Found). x.class) (founds all) n ∙ ap (option_map (λ (x : Found). x.class)) f.1)
    ∙ ap Some (sym (e ∙ ap (λ (o : Option Found). among name (base_methods (base_or (kind_of_found o) base.Bad))) f.1))
