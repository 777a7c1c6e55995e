-- Classes from one without a base on, each the base of the next.
use Rattle.std.proofs.Common.{◌≡◌, ◌∙◌, ◌+◌, ◌-◌, ◌<◌, ◌≤◌, ◌||◌, ℕ, zero, suc, Bool, true, false, List, [], ◌∷◌, ◌++◌, length, take, Option, Some, None, refl, sym, ap, subst, arith, nat_lt, append_assoc, not, zero-add}
use Rattle.std.proofs.Math.Seq.{take-nil}
use Rattle.std.proofs.lemmas.Bool.{lt-ltb}
use Rattle.std.proofs.lemmas.List.{append-nil, map-append}
use Rattle.std.specs.Prelude.{slice_get}
use Rattle.std.specs.List.{flat_map, list_any, filter}
use Rattle.std.specs.Str.{bytes_eq}
use Rattle.std.proofs.lemmas.List.Folds.{list_any-append}
use Rattle.std.proofs.lemmas.Slice.Eq.{bytes_eq-Decides}
use Rattle.py_tree.specs.Syntax.{Text}
use Rattle.symbols.specs.declared.class.BasePlace.{BasePlace}
use Rattle.symbols.specs.declared.class.BasePlace.TheVariants as place
use Rattle.symbols.specs.declared.class.ClassKind.{ClassKind}
use Rattle.symbols.specs.declared.class.OwnClass.{OwnClass}
use Rattle.symbols.specs.declared.class_list.FoundClasses.{FoundClasses}
use Rattle.symbols.specs.declared.lineage.Step.{Step}
use Rattle.symbols.specs.BaseKinds as base
use Rattle.symbols.specs.BaseKinds.{Base}
use Rattle.symbols.specs.BasePlaces.{earlier_bound, is_class, standing}
use Rattle.symbols.specs.Bindings.{first_mentions}
use Rattle.symbols.specs.Classes.{Found, base_methods, base_or, base_slots, kind_of_found}
use Rattle.symbols.specs.ClassViews.{base_at, founds, joined, joined_behind}
use Rattle.symbols.specs.Lineages.{Climbs, Descends, Knows, above, base_of_own, clash_at, clash_of, kind_of, last_clashes, last_or, methods_at, methods_of_own, places_of, slots_at, slots_of_own}
use Rattle.symbols.specs.Tallies.{times}
use Rattle.symbols.specs.Words.{among}
use Rattle.symbols.proofs.Sets.{bytes_eq-swap}

-- ---- climbing

abbrev pub rank : BasePlace → ℕ
rank (place.Earlier number) = number + 2
rank place.None = 0
rank p = 1

pub climbs-push : (all : FoundClasses) (ps : List BasePlace) (p top : BasePlace) → Climbs all p ps top → Climbs all p (ps ++ top ∷ []) (above all top)
climbs-push all [] p top e = (sym e, refl)
climbs-push all (q ∷ ps) p top (e, rest) = (e, climbs-push all ps (above all q) top rest)

pub climbs-last : (all : FoundClasses) (ps : List BasePlace) (p last top : BasePlace) → Climbs all p (ps ++ last ∷ []) top → Climbs all p ps last × (above all last ≡ top)
climbs-last all [] p last top (e, f) = (sym e, f)
climbs-last all (q ∷ ps) p last top (e, rest) = let r = climbs-last all ps (above all q) last top rest in ((e, r.0), r.1)

-- ---- descending

pub last_or-push : (ps : List BasePlace) (p q : BasePlace) → last_or p (ps ++ q ∷ []) ≡ q
last_or-push [] p q = refl
last_or-push (r ∷ ps) p q = last_or-push ps r q

pub descends-push : (all : FoundClasses) (ps : List BasePlace) (p q : BasePlace) → Descends all p ps → above all q ≡ last_or p ps → Descends all p (ps ++ q ∷ [])
descends-push all [] p q d e = (e, tt)
descends-push all (r ∷ ps) p q (e, rest) f = (e, descends-push all ps r q rest f)

pub descends-pop : (all : FoundClasses) (ps : List BasePlace) (p q : BasePlace) → Descends all p (ps ++ q ∷ []) → Descends all p ps
descends-pop all [] p q d = tt
descends-pop all (r ∷ ps) p q (e, rest) = (e, descends-pop all ps r q rest)

pub knows-push : (all : FoundClasses) (steps : List Step) (s : Step) → Knows all steps → s.clashes ≡ clash_at all s.place → Knows all (steps ++ s ∷ [])
knows-push all [] s k e = (e, tt)
knows-push all (t ∷ steps) s (f, rest) e = (f, knows-push all steps s rest e)

pub knows-pop : (all : FoundClasses) (steps : List Step) (s : Step) → Knows all (steps ++ s ∷ []) → Knows all steps
knows-pop all [] s k = tt
knows-pop all (t ∷ steps) s (f, rest) = (f, knows-pop all steps s rest)

pub last_knows : (all : FoundClasses) (steps : List Step) → Knows all steps → last_clashes steps ≡ clash_at all (last_or place.None (places_of steps))
last_knows all [] k = refl
last_knows all (s ∷ []) (e, rest) = e
last_knows all (s ∷ t ∷ steps) (e, rest) = last_knows all (t ∷ steps) rest

-- ---- names

or-assoc : (a b c : Bool) → ((a || b) || c) ≡ (a || (b || c))
or-assoc true b c = refl
or-assoc false b c = refl

or-false : (a : Bool) → (a || false) ≡ a
or-false true = refl
or-false false = refl

pub times-append : (name : Text) (xs ys : List Text) → times name (xs ++ ys) ≡ times name xs + times name ys
times-append name [] ys = omega arith
times-append name (x ∷ xs) ys = let rest = times-append name xs ys in omega (arith, rest)

pub times-among : (name : Text) (xs : List Text) → nat_lt 0 (times name xs) ≡ among name xs
times-among name [] = refl
times-among name (x ∷ xs) = by (bytes_eq name x) refl (times-among name xs)
  where
    by : (b : Bool) → bytes_eq name x ≡ b → nat_lt 0 (times name xs) ≡ among name xs → nat_lt 0 (times name (x ∷ xs)) ≡ among name (x ∷ xs)
    by true e rest = rw e (positive (times name xs))
      where
        positive : (n : ℕ) → nat_lt 0 (1 + n) ≡ true
        positive n = lt-ltb 0 (1 + n) (omega arith)
    by false e rest = rw e (ap (nat_lt 0) (zero-add (times name xs)) ∙ rest)

or-middle : (a b c d : Bool) → ((a || b) || (c || d)) ≡ ((a || c) || (b || d))
or-middle true b c d = refl
or-middle false true true d = refl
or-middle false true false d = refl
or-middle false false true d = refl
or-middle false false false d = refl

any-or : (f g : Text → Bool) (xs : List Text) → list_any (λ x. f x || g x) xs ≡ (list_any f xs || list_any g xs)
any-or f g [] = refl
any-or f g (x ∷ xs) = ap (λ b. (f x || g x) || b) (any-or f g xs) ∙ or-middle (f x) (g x) (list_any f xs) (list_any g xs)

any-never : (xs : List Text) → list_any (λ x. false) xs ≡ false
any-never [] = refl
any-never (x ∷ xs) = any-never xs

any-swap : (xs ys : List Text) → list_any (λ x. among x ys) xs ≡ list_any (λ y. among y xs) ys
any-swap [] ys = sym (any-never ys)
any-swap (x ∷ xs) ys =
    ap (λ b. among x ys || b) (any-swap xs ys)
    ∙ ((λ i. list_any (λ y. bytes_eq-swap x y i) ys || list_any (λ y. among y xs) ys) ∙ sym (any-or (λ y. bytes_eq y x) (λ y. among y xs) ys))

pub last_clashes-get : (steps : List Step) (s : Step) → slice_get steps (length steps - 1) ≡ Some s → s.clashes ≡ last_clashes steps
last_clashes-get [] s e = cc (e)
last_clashes-get (t ∷ []) s e = let same : t ≡ s = some_is e in ap (λ (x : Step). x.clashes) (sym same)
  where
    some_is : Some t ≡ Some s → t ≡ s
    some_is f = cc (f)
last_clashes-get (t ∷ u ∷ steps) s e =
    let i : length (t ∷ u ∷ steps) - 1 ≡ suc (length (u ∷ steps) - 1) = omega arith in
    last_clashes-get (u ∷ steps) s (subst (λ n. slice_get (t ∷ u ∷ steps) n ≡ Some s) i e)

-- ---- what a class adds to its base

any-without : (test : Text → Bool) (name : Text) (xs : List Text) → test name ≡ false → list_any test (filter (λ x. not (bytes_eq name x)) xs) ≡ list_any test xs
any-without test name [] fails = refl
any-without test name (x ∷ xs) fails = by (bytes_eq name x) refl (any-without test name xs fails)
  where
    by : (b : Bool) → bytes_eq name x ≡ b → list_any test (filter (λ y. not (bytes_eq name y)) xs) ≡ list_any test xs → list_any test (filter (λ y. not (bytes_eq name y)) (x ∷ xs)) ≡ list_any test (x ∷ xs)
    by true e rest = let here : test x ≡ false = subst (λ n. test n ≡ false) ((bytes_eq-Decides name x).0 e) fails in rw (e, here) rest
    by false e rest = rw e (ap (λ b. test x || b) rest)

any-first_mentions : (test : Text → Bool) (xs : List Text) → list_any test (first_mentions xs) ≡ list_any test xs
any-first_mentions test [] = refl
any-first_mentions test (x ∷ xs) = by (test x) refl (any-first_mentions test xs)
  where
    by : (b : Bool) → test x ≡ b → list_any test (first_mentions xs) ≡ list_any test xs → list_any test (first_mentions (x ∷ xs)) ≡ list_any test (x ∷ xs)
    by true e rest = rw e refl
    by false e rest = rw e (any-without test x (first_mentions xs) e ∙ rest)

pub found_get : (home : ℕ) (others : List ClassKind) (own : List OwnClass) (earlier : List Found) (n : ℕ) (c : OwnClass) → slice_get own n ≡ Some c
    → slice_get (joined_behind home others earlier own) n ≡ Some (joined home others (earlier ++ take n (joined_behind home others earlier own)) c)
found_get home others [] earlier n c e = cc (e)
found_get home others (d ∷ own) earlier zero c e =
    let same : d ≡ c = some_is e in
    ap (λ (x : OwnClass). Some (joined home others earlier x)) same ∙ ap (λ (fs : List Found). Some (joined home others fs c)) (sym (append-nil earlier))
  where
    some_is : Some d ≡ Some c → d ≡ c
    some_is f = cc (f)
found_get home others (d ∷ own) earlier (suc n) c e =
    let f = joined home others earlier d in
    found_get home others own (earlier ++ f ∷ []) n c e ∙ ap (λ (fs : List Found). Some (joined home others fs c)) (append_assoc earlier (f ∷ []) (take n (joined_behind home others (earlier ++ f ∷ []) own)))

pub found_none : (home : ℕ) (others : List ClassKind) (own : List OwnClass) (earlier : List Found) (n : ℕ) → slice_get own n ≡ None → slice_get (joined_behind home others earlier own) n ≡ None
found_none home others [] earlier n e = refl
found_none home others (d ∷ own) earlier zero e = cc (e)
found_none home others (d ∷ own) earlier (suc n) e = found_none home others own (earlier ++ joined home others earlier d ∷ []) n e

pub slice_get-take : {X : Type 0} (xs : List X) (n i : ℕ) → i < n → slice_get (take n xs) i ≡ slice_get xs i
slice_get-take {X} [] n i h = ap (λ (ys : List X). slice_get ys i) (take-nil n)
slice_get-take (x ∷ xs) zero i h = absurd (omega (arith, h))
slice_get-take (x ∷ xs) (suc n) zero h = refl
slice_get-take (x ∷ xs) (suc n) (suc i) h = slice_get-take xs n i (omega (arith, h))

-- the base of a class among those before it is its base among all
pub base_before : (others : List ClassKind) (found : List Found) (n : ℕ) (p : BasePlace) → earlier_bound p ≤ n → (base_slots (base_at others (take n found) p) ≡ base_slots (base_at others found (standing p))) × (base_methods (base_at others (take n found) p) ≡ base_methods (base_at others found (standing p)))
base_before others found n place.None h = (refl, refl)
base_before others found n (place.Earlier m) h =
    let same : slice_get (take n found) m ≡ slice_get found m = slice_get-take found n m (omega (arith, h)) in
    (ap (λ o. base_slots (base_or (kind_of_found o) base.Bad)) same, ap (λ o. base_methods (base_or (kind_of_found o) base.Bad)) same)
base_before others found n (place.Imported m) h = (refl, refl)
base_before others found n (place.Exception kind) h = (refl, refl)
base_before others found n place.Bad h = (refl, refl)

-- the names of a class are those of its base and its own
pub record Extends (all : FoundClasses) (p : BasePlace) : Type 0 where
  pub slots : (test : Text → Bool) → list_any test (base_slots (kind_of all p)) ≡ (list_any test (base_slots (kind_of all (above all p))) || list_any test (slots_at all p))
  pub methods : (test : Text → Bool) → list_any test (base_methods (kind_of all p)) ≡ (list_any test (base_methods (kind_of all (above all p))) || list_any test (methods_at all p))

abbrev ExtendsBy : FoundClasses → Option Found → Option OwnClass → Type 0
ExtendsBy all f c =
    ((test : Text → Bool) → list_any test (base_slots (base_or (kind_of_found f) base.Bad)) ≡ (list_any test (base_slots (kind_of all (base_of_own c))) || list_any test (slots_of_own c)))
    × ((test : Text → Bool) → list_any test (base_methods (base_or (kind_of_found f) base.Bad)) ≡ (list_any test (base_methods (kind_of all (base_of_own c))) || list_any test (methods_of_own c)))

extends_own : (all : FoundClasses) (n : ℕ) (o : Option OwnClass) → slice_get all.own n ≡ o → ExtendsBy all (slice_get (founds all) n) o
extends_own all n None e = subst (λ (f : Option Found). ExtendsBy all f None) (sym (found_none all.home all.others all.own [] n e)) (λ test. refl, λ test. refl)
extends_own all n (Some c) e =
    let fs = founds all in
    let b = base_before all.others fs n c.base (all.placed n c e).0 in
    let made : Option Found = Some (joined all.home all.others (take n fs) c) in
    let is : slice_get fs n ≡ made = found_get all.home all.others all.own [] n c e in
    subst (λ (f : Option Found). ExtendsBy all f (Some c)) (sym is) (
      λ test. any-first_mentions test (base_slots (base_at all.others (take n fs) c.base) ++ c.slots) ∙ (list_any-append test (base_slots (base_at all.others (take n fs) c.base)) c.slots ∙ ap (λ xs. list_any test xs || list_any test c.slots) b.0),
      λ test. any-first_mentions test (base_methods (base_at all.others (take n fs) c.base) ++ c.methods) ∙ (list_any-append test (base_methods (base_at all.others (take n fs) c.base)) c.methods ∙ ap (λ xs. list_any test xs || list_any test c.methods) b.1),
    )

extends_other : (all : FoundClasses) (n : ℕ) (o : Option ClassKind) → slice_get all.others n ≡ o → Extends all (place.Imported n)
extends_other all n None e = record { slots = λ test. rw e refl; methods = λ test. rw e refl }
extends_other all n (Some c) e = record { slots = λ test. rw e refl; methods = λ test. rw e refl }

pub extends : (all : FoundClasses) (p : BasePlace) → Extends all p
extends all place.None = record { slots = λ test. refl; methods = λ test. refl }
extends all (place.Earlier n) = let e = extends_own all n (slice_get all.own n) refl in record { slots = e.0; methods = e.1 }
extends all (place.Imported n) = extends_other all n (slice_get all.others n) refl
extends all (place.Exception kind) = record { slots = λ test. refl; methods = λ test. refl }
extends all place.Bad = record { slots = λ test. refl; methods = λ test. refl }

-- the names along a descent are those of its last class
pub slots_along : (all : FoundClasses) (ps : List BasePlace) (p : BasePlace) (test : Text → Bool) → Descends all p ps → list_any test (base_slots (kind_of all (last_or p ps))) ≡ (list_any test (base_slots (kind_of all p)) || list_any test (flat_map (slots_at all) ps))
slots_along all [] p test d = sym (or-false (list_any test (base_slots (kind_of all p))))
slots_along all (q ∷ ps) p test (e, d) =
    slots_along all ps q test d
    ∙ (ap (λ b. b || list_any test (flat_map (slots_at all) ps)) ((extends all q).slots test ∙ ap (λ r. list_any test (base_slots (kind_of all r)) || list_any test (slots_at all q)) e)
    ∙ (or-assoc (list_any test (base_slots (kind_of all p))) (list_any test (slots_at all q)) (list_any test (flat_map (slots_at all) ps))
    ∙ ap (λ b. list_any test (base_slots (kind_of all p)) || b) (sym (list_any-append test (slots_at all q) (flat_map (slots_at all) ps)))))

pub methods_along : (all : FoundClasses) (ps : List BasePlace) (p : BasePlace) (test : Text → Bool) → Descends all p ps → list_any test (base_methods (kind_of all (last_or p ps))) ≡ (list_any test (base_methods (kind_of all p)) || list_any test (flat_map (methods_at all) ps))
methods_along all [] p test d = sym (or-false (list_any test (base_methods (kind_of all p))))
methods_along all (q ∷ ps) p test (e, d) =
    methods_along all ps q test d
    ∙ (ap (λ b. b || list_any test (flat_map (methods_at all) ps)) ((extends all q).methods test ∙ ap (λ r. list_any test (base_methods (kind_of all r)) || list_any test (methods_at all q)) e)
    ∙ (or-assoc (list_any test (base_methods (kind_of all p))) (list_any test (methods_at all q)) (list_any test (flat_map (methods_at all) ps))
    ∙ ap (λ b. list_any test (base_methods (kind_of all p)) || b) (sym (list_any-append test (methods_at all q) (flat_map (methods_at all) ps)))))

-- ---- a clash

clash_of-any : (b : Base) → clash_of b ≡ list_any (λ s. among s (base_methods b)) (base_slots b)
clash_of-any base.None = refl
clash_of-any (base.Class kind) = refl
clash_of-any base.Bad = refl

in_four : (c x1 x2 y : Bool) → ((c || y) || (x1 || x2)) ≡ ((c || (x1 || x2)) || (y || x2))
in_four true x1 x2 y = refl
in_four false true x2 true = refl
in_four false true x2 false = refl
in_four false false true true = refl
in_four false false true false = refl
in_four false false false true = refl
in_four false false false false = refl

pub clash_step : (all : FoundClasses) (p : BasePlace) → ((clash_at all (above all p) || list_any (λ s. among s (base_methods (kind_of all p))) (slots_at all p)) || list_any (λ m. among m (base_slots (kind_of all p))) (methods_at all p)) ≡ clash_at all p
clash_step all p =
    let bs = base_slots (kind_of all (above all p)) in
    let bm = base_methods (kind_of all (above all p)) in
    let os = slots_at all p in
    let om = methods_at all p in
    let c = list_any (λ s. among s bm) bs in
    let x1 = list_any (λ s. among s bm) os in
    let x2 = list_any (λ s. among s om) os in
    let y = list_any (λ m. among m bs) om in
    let x : list_any (λ s. among s (base_methods (kind_of all p))) os ≡ (x1 || x2) = (λ i. list_any (λ s. (extends all p).methods (bytes_eq s) i) os) ∙ any-or (λ s. among s bm) (λ s. among s om) os in
    let left : clash_at all p ≡ ((c || y) || (x1 || x2)) =
    clash_of-any (kind_of all p)
    ∙ ((extends all p).slots (λ s. among s (base_methods (kind_of all p)))
    ∙ ((λ i. list_any (λ s. (extends all p).methods (bytes_eq s) i) bs || x i) ∙ ap (λ b. b || (x1 || x2)) (any-or (λ s. among s bm) (λ s. among s om) bs ∙ ap (λ b. c || b) (any-swap bs om))))
    in
    let right : list_any (λ m. among m (base_slots (kind_of all p))) om ≡ (y || x2) = (λ i. list_any (λ m. (extends all p).slots (bytes_eq m) i) om) ∙ (any-or (λ m. among m bs) (λ m. among m os) om ∙ ap (λ b. y || b) (any-swap om os)) in
    (λ i. (clash_of-any (kind_of all (above all p)) i || x i) || right i) ∙ (sym (in_four c x1 x2 y) ∙ sym left)

pub times-push : (name : Text) (f : BasePlace → List Text) (ps : List BasePlace) (p : BasePlace) → times name (flat_map f (ps ++ p ∷ [])) ≡ times name (flat_map f ps) + times name (f p)
times-push name f [] p = times-append name (f p) [] ∙ omega arith
times-push name f (q ∷ ps) p =
    let rest = times-push name f ps p in
    let here = times-append name (f q) (flat_map f (ps ++ p ∷ [])) in
    let there = times-append name (f q) (flat_map f ps) in
    omega (arith, rest, here, there)

-- ---- up and down by one

standing_rank : (p : BasePlace) (n : ℕ) → earlier_bound p ≤ n → rank (standing p) < n + 2
standing_rank place.None n h = omega arith
standing_rank (place.Earlier m) n h = omega (arith, h)
standing_rank (place.Imported m) n h = omega arith
standing_rank (place.Exception kind) n h = omega arith
standing_rank place.Bad n h = omega arith

rank_own : (all : FoundClasses) (n : ℕ) (o : Option OwnClass) → slice_get all.own n ≡ o → rank (base_of_own o) < n + 2
rank_own all n None e = omega arith
rank_own all n (Some c) e = standing_rank c.base n (all.placed n c e).0

pub rank_above : (all : FoundClasses) (p : BasePlace) → is_class p ≡ true → rank (above all p) < rank p
rank_above all place.None h = cc (h)
rank_above all (place.Earlier n) h = rank_own all n (slice_get all.own n) refl
rank_above all (place.Imported n) h = omega arith
rank_above all (place.Exception kind) h = omega arith
rank_above all place.Bad h = omega arith

places-push : (steps init : List Step) (s : Step) → steps ≡ init ++ s ∷ [] → places_of steps ≡ places_of init ++ s.place ∷ []
places-push steps init s e = ap places_of e ∙ map-append (λ (x : Step). x.place) init (s ∷ [])

pub descends-left : (all : FoundClasses) (steps init : List Step) (s : Step) → steps ≡ init ++ s ∷ [] → Descends all place.None (places_of steps) → Descends all place.None (places_of init)
descends-left all steps init s e d = descends-pop all (places_of init) place.None s.place (subst (Descends all place.None) (places-push steps init s e) d)

pub descends-entered : (all : FoundClasses) (steps init : List Step) (s : Step) → steps ≡ init ++ s ∷ [] → Descends all place.None (places_of init) → above all s.place ≡ last_or place.None (places_of init) → Descends all place.None (places_of steps)
descends-entered all steps init s e d f = subst (Descends all place.None) (sym (places-push steps init s e)) (descends-push all (places_of init) place.None s.place d f)

pub last-entered : (steps init : List Step) (s : Step) → steps ≡ init ++ s ∷ [] → last_or place.None (places_of steps) ≡ s.place
last-entered steps init s e = ap (last_or place.None) (places-push steps init s e) ∙ last_or-push (places_of init) place.None s.place

pub count-left : (f : BasePlace → List Text) (steps init : List Step) (s : Step) (name : Text) (names : List Text) (old now : ℕ) → steps ≡ init ++ s ∷ [] → old ≡ times name (flat_map f (places_of steps)) → names ≡ f s.place → now ≡ old - times name names → now ≡ times name (flat_map f (places_of init))
count-left f steps init s name names old now e held is less =
    let a : old ≡ times name (flat_map f (places_of init)) + times name (f s.place) = held ∙ (ap (λ ps. times name (flat_map f ps)) (places-push steps init s e) ∙ times-push name f (places_of init) s.place) in
    let b : times name names ≡ times name (f s.place) = ap (times name) is in
    omega (arith, a, b, less)

pub count-entered : (f : BasePlace → List Text) (steps init : List Step) (s : Step) (name : Text) (names : List Text) (old now : ℕ) → steps ≡ init ++ s ∷ [] → old ≡ times name (flat_map f (places_of init)) → names ≡ f s.place → now ≡ old + times name names → now ≡ times name (flat_map f (places_of steps))
count-entered f steps init s name names old now e held is more =
    let a : times name (flat_map f (places_of steps)) ≡ times name (flat_map f (places_of init)) + times name (f s.place) = ap (λ ps. times name (flat_map f ps)) (places-push steps init s e) ∙ times-push name f (places_of init) s.place in
    let b : times name names ≡ times name (f s.place) = ap (times name) is in
    omega (arith, a, b, held, more)

-- a name is counted where it is among the names of the class and its bases
slots_counted : (all : FoundClasses) (ps : List BasePlace) (p : BasePlace) (name : Text) (n : ℕ) → Descends all place.None ps → above all p ≡ last_or place.None ps → n ≡ times name (flat_map (slots_at all) ps) + times name (slots_at all p) → nat_lt 0 n ≡ among name (base_slots (kind_of all p))
slots_counted all ps p name n d e is =
    ap (nat_lt 0) (is ∙ sym (times-append name (flat_map (slots_at all) ps) (slots_at all p)))
    ∙ (times-among name (flat_map (slots_at all) ps ++ slots_at all p)
    ∙ (list_any-append (bytes_eq name) (flat_map (slots_at all) ps) (slots_at all p)
    ∙ (ap (λ b. b || among name (slots_at all p)) (sym (slots_along all ps place.None (bytes_eq name) d) ∙ ap (λ q. among name (base_slots (kind_of all q))) (sym e))
    ∙ sym ((extends all p).slots (bytes_eq name)))))

methods_counted : (all : FoundClasses) (ps : List BasePlace) (p : BasePlace) (name : Text) (n : ℕ) → Descends all place.None ps → above all p ≡ last_or place.None ps → n ≡ times name (flat_map (methods_at all) ps) + times name (methods_at all p) → nat_lt 0 n ≡ among name (base_methods (kind_of all p))
methods_counted all ps p name n d e is =
    ap (nat_lt 0) (is ∙ sym (times-append name (flat_map (methods_at all) ps) (methods_at all p)))
    ∙ (times-among name (flat_map (methods_at all) ps ++ methods_at all p)
    ∙ (list_any-append (bytes_eq name) (flat_map (methods_at all) ps) (methods_at all p)
    ∙ (ap (λ b. b || among name (methods_at all p)) (sym (methods_along all ps place.None (bytes_eq name) d) ∙ ap (λ q. among name (base_methods (kind_of all q))) (sym e))
    ∙ sym ((extends all p).methods (bytes_eq name)))))

pub clash-entered : (all : FoundClasses) (steps : List Step) (p : BasePlace) (slots methods : Text → ℕ) → Descends all place.None (places_of steps) → Knows all steps → above all p ≡ last_or place.None (places_of steps)
    → ((name : Text) → slots name ≡ times name (flat_map (slots_at all) (places_of steps)) + times name (slots_at all p))
    → ((name : Text) → methods name ≡ times name (flat_map (methods_at all) (places_of steps)) + times name (methods_at all p))
    → ((last_clashes steps || list_any (λ name. nat_lt 0 (methods name)) (slots_at all p)) || list_any (λ name. nat_lt 0 (slots name)) (methods_at all p)) ≡ clash_at all p
clash-entered all steps p slots methods d k e s m =
    (λ i. ((last_knows all steps k ∙ ap (clash_at all) (sym e)) i || list_any (λ name. methods_counted all (places_of steps) p name (methods name) d e (m name) i) (slots_at all p)) || list_any (λ name. slots_counted all (places_of steps) p name (slots name) d e (s name) i) (methods_at all p))
    ∙ clash_step all p
