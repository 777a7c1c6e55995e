-- Every use of a name has one binding.
use Rattle.std.proofs.Common.{◌≡◌, ℕ, suc, Bool, true, false, List, [], ◌∷◌, Option, Some, None, refl, sym, ap, subst, ◌∙◌}
use Rattle.std.specs.Prelude.{if◌then◌else◌, codes, is_some}
use Rattle.std.specs.Str.{bytes_eq}
use Rattle.std.proofs.lemmas.Slice.Eq.{bytes_eq-Decides}
use Rattle.py_tree.specs.Syntax.{Text}
use Rattle.symbols.specs.declared.binding.StaticName.{StaticName}
use Rattle.symbols.specs.Words.{among, is_builtin}
use Rattle.symbols.specs.SpecialNames.{Context, static_of}
use Rattle.symbols.specs.Uses.{Bound, builtin, module_name, nothing, StandsAt, here, behind, IsAbsent, IsUnbound, IsBoundTo, to_local, to_static_name, to_global, to_module_name, to_builtin, to_nothing, one_more, place_of, local_or, static_or, global_or, use_of, OneBinding}

-- ---- the place of a name

same : (a b : Text) → bytes_eq a b ≡ true → a ≡ b
same a b e = (bytes_eq-Decides a b).0 e

differs : (a b : Text) → bytes_eq a b ≡ false → ¬ (a ≡ b)
differs a b e p = let q : bytes_eq a b ≡ true = (bytes_eq-Decides a b).1 p in cc

no_test : (a b : Text) → ¬ (a ≡ b) → bytes_eq a b ≡ false
no_test a b n = by (bytes_eq a b) refl
  where
    by : (t : Bool) → bytes_eq a b ≡ t → bytes_eq a b ≡ false
    by true e = absurd (n (same a b e))
    by false e = e

is_place : {name : Text} {names : List Text} {n : ℕ} → StandsAt name names n → place_of name names ≡ Some n
is_place {name = name} (here {names = names}) = ap (λ t. if t then Some 0 else one_more (place_of name names)) ((bytes_eq-Decides name name).1 refl)
is_place {name = name} (behind {other = other} {names = names} ne d) =
    ap (λ t. if t then Some 0 else one_more (place_of name names)) (no_test name other ne) ∙ ap one_more (is_place d)

stands : (name : Text) (names : List Text) (n : ℕ) → place_of name names ≡ Some n → StandsAt name names n
stands name [] n e = absurd cc
stands name (other ∷ names) n e = by (bytes_eq name other) refl (place_of name names) refl e (λ m. stands name names m)
  where
    by : (t : Bool) → bytes_eq name other ≡ t → (p : Option ℕ) → place_of name names ≡ p → (if t then Some 0 else one_more p) ≡ Some n → ((m : ℕ) → place_of name names ≡ Some m → StandsAt name names m) → StandsAt name (other ∷ names) n
    by true h p q k further = let z : 0 ≡ n = cc in subst (λ m. StandsAt name (other ∷ names) m) z (subst (λ a. StandsAt name (a ∷ names) 0) (same name other h) here)
    by false h None q k further = absurd cc
    by false h (Some m) q k further = let z : suc m ≡ n = cc in subst (λ m. StandsAt name (other ∷ names) m) z (behind (differs name other h) (further m q))

absent : (name : Text) (names : List Text) → place_of name names ≡ None → IsAbsent name names
absent name names e n d = let p : place_of name names ≡ Some n = is_place d in cc

no_place : (name : Text) (names : List Text) → IsAbsent name names → place_of name names ≡ None
no_place name names a = by (place_of name names) refl
  where
    by : (p : Option ℕ) → place_of name names ≡ p → place_of name names ≡ None
    by None e = e
    by (Some n) e = absurd (a n (stands name names n e))

also_some : (p : Option ℕ) → is_some p ≡ is_some (one_more p)
also_some None = refl
also_some (Some n) = refl

among_place : (name : Text) (names : List Text) → among name names ≡ is_some (place_of name names)
among_place name [] = refl
among_place name (other ∷ names) = by (bytes_eq name other) refl (among_place name names)
  where
    by : (t : Bool) → bytes_eq name other ≡ t → among name names ≡ is_some (place_of name names) → among name (other ∷ names) ≡ is_some (place_of name (other ∷ names))
    by true e h = rw e refl
    by false e h = rw e (h ∙ also_some (place_of name names))

-- ---- the binding

abbrev pick : Option ℕ → Option StaticName → Option ℕ → Bool → Bool → Bound
pick l s g m u = local_or l (static_or s (global_or g (if m then module_name else (if u then builtin else nothing))))

no_local_static : (c : Context) (name : Text) → IsAbsent name c.locals → static_of c name ≡ c.statics name
no_local_static c name a = ap (λ t. if t then None else c.statics name) (among_place name c.locals ∙ ap is_some (no_place name c.locals a))

abbrev is_module_name : Text → Bool
is_module_name name = bytes_eq name (codes "__name__")

picked : (l : Option ℕ) (s : Option StaticName) (g : Option ℕ) (m u : Bool) (l' : Option ℕ) (s' : Option StaticName) (g' : Option ℕ) (m' u' : Bool) → l ≡ l' → s ≡ s' → g ≡ g' → m ≡ m' → u ≡ u' → pick l' s' g' m' u' ≡ pick l s g m u
picked l s g m u l' s' g' m' u' p q r e f = rw (p, q, r, e, f) refl

pub alone : (c : Context) (globals : List Text) (name : Text) (b : Bound) → IsBoundTo c globals name b → b ≡ use_of c globals name
alone c globals name b (to_local {n = n} d) = picked (place_of name c.locals) (static_of c name) (place_of name globals) (is_module_name name) (is_builtin name) (Some n) (static_of c name) (place_of name globals) (is_module_name name) (is_builtin name) (is_place d) refl refl refl refl
alone c globals name b (to_static_name {s = s} a e) =
    picked (place_of name c.locals) (static_of c name) (place_of name globals) (is_module_name name) (is_builtin name) None (Some s) (place_of name globals) (is_module_name name) (is_builtin name)
    (no_place name c.locals a) (no_local_static c name a ∙ e) refl refl refl
alone c globals name b (to_global {n = n} a e d) =
    picked (place_of name c.locals) (static_of c name) (place_of name globals) (is_module_name name) (is_builtin name) None None (Some n) (is_module_name name) (is_builtin name)
    (no_place name c.locals a) (no_local_static c name a ∙ e) (is_place d) refl refl
alone c globals name b (to_module_name u e) =
    picked (place_of name c.locals) (static_of c name) (place_of name globals) (is_module_name name) (is_builtin name) None None None true (is_builtin name)
    (no_place name c.locals u.no_local) (no_local_static c name u.no_local ∙ u.no_static_name) (no_place name globals u.no_global) ((bytes_eq-Decides name (codes "__name__")).1 e) refl
alone c globals name b (to_builtin u n e) =
    picked (place_of name c.locals) (static_of c name) (place_of name globals) (is_module_name name) (is_builtin name) None None None false true
    (no_place name c.locals u.no_local) (no_local_static c name u.no_local ∙ u.no_static_name) (no_place name globals u.no_global) (no_test name (codes "__name__") n) e
alone c globals name b (to_nothing u n e) =
    picked (place_of name c.locals) (static_of c name) (place_of name globals) (is_module_name name) (is_builtin name) None None None false false
    (no_place name c.locals u.no_local) (no_local_static c name u.no_local ∙ u.no_static_name) (no_place name globals u.no_global) (no_test name (codes "__name__") n) e

unbound_there : (c : Context) (globals : List Text) (name : Text) → IsUnbound c globals name → (m u : Bool) → is_module_name name ≡ m → is_builtin name ≡ u → IsBoundTo c globals name (pick None None None m u)
unbound_there c globals name n true u e f = to_module_name n (same name (codes "__name__") e)
unbound_there c globals name n false true e f = to_builtin n (differs name (codes "__name__") e) f
unbound_there c globals name n false false e f = to_nothing n (differs name (codes "__name__") e) f

global_there : (c : Context) (globals : List Text) (name : Text) → IsAbsent name c.locals → c.statics name ≡ None → (g : Option ℕ) → place_of name globals ≡ g → IsBoundTo c globals name (pick None None g (is_module_name name) (is_builtin name))
global_there c globals name a e (Some n) f = to_global a e (stands name globals n f)
global_there c globals name a e None f =
    unbound_there c globals name (record { no_local = a; no_static_name = e; no_global = absent name globals f }) (is_module_name name) (is_builtin name) refl refl

static_there : (c : Context) (globals : List Text) (name : Text) → IsAbsent name c.locals → (s : Option StaticName) → c.statics name ≡ s → IsBoundTo c globals name (pick None s (place_of name globals) (is_module_name name) (is_builtin name))
static_there c globals name a (Some s) e = to_static_name a e
static_there c globals name a None e = global_there c globals name a e (place_of name globals) refl

local_there : (c : Context) (globals : List Text) (name : Text) (l : Option ℕ) → place_of name c.locals ≡ l → IsBoundTo c globals name (pick l (static_of c name) (place_of name globals) (is_module_name name) (is_builtin name))
local_there c globals name (Some n) e = to_local (stands name c.locals n e)
local_there c globals name None e =
    let a : IsAbsent name c.locals = absent name c.locals e in
    subst (λ s. IsBoundTo c globals name (pick None s (place_of name globals) (is_module_name name) (is_builtin name))) (sym (no_local_static c name a)) (static_there c globals name a (c.statics name) refl)

pub one_binding : (c : Context) (globals : List Text) (name : Text) → OneBinding c globals name
one_binding c globals name = record {
  there = local_there c globals name (place_of name c.locals) refl;
  alone = alone c globals name;
}
