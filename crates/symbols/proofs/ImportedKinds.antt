-- Where the classes of imports stand among those of all.
use Rattle.std.proofs.Common.{◌≡◌, ◌∙◌, ◌+◌, ◌<◌, ℕ, zero, suc, List, [], ◌∷◌, ◌++◌, length, take, Option, Some, None, refl, sym, ap, subst, append_assoc, arith, length-append, zero-add, add_assoc, ◌⊎◌, inl, inr}
use Rattle.std.specs.Prelude.{slice_get}
use Rattle.std.specs.List.{find}
use Rattle.std.specs.Str.{bytes_eq}
use Rattle.std.specs.Option.{option_map}
use Rattle.std.proofs.lemmas.Option.{slice_get-map, slice_get_within}
use Rattle.std.proofs.lemmas.List.{append-nil, length-map}
use Rattle.py_tree.specs.Syntax.{Text}
use Rattle.symbols.specs.declared.class.ClassKind.{ClassKind}
use Rattle.symbols.specs.declared.name_map.NameMap.{NameMap}
use Rattle.symbols.specs.declared.outer.Outer.{Outer}
use Rattle.symbols.specs.declared.outer.OuterBinding.{OuterBinding}
use Rattle.symbols.specs.declared.outer.OuterKind.{OuterKind}
use Rattle.symbols.specs.declared.outer.OuterKind.TheVariants as outer
use Rattle.symbols.specs.declared.outer.ModuleClass.{ModuleClass}
use Rattle.symbols.specs.Classes.{class_kind, class_of_module, kind_of_member, kind_of_outer, module_classes, outer_kind}
use Rattle.symbols.specs.ClassViews.{StandsAt, kinds_in, kinds_of}
use Rattle.symbols.specs.Names.{found}
use Rattle.symbols.specs.Places.{AreMembers, ArePlaces, IsPlace, found_inside, member_name}

pub slice_get-front : {X : Type 0} (xs ys : List X) (i : ℕ) → i < length xs → slice_get (xs ++ ys) i ≡ slice_get xs i
slice_get-front [] ys i h = absurd (omega (arith, h))
slice_get-front (x ∷ xs) ys zero h = refl
slice_get-front (x ∷ xs) ys (suc i) h = slice_get-front xs ys i (omega (arith, h))

pub slice_get-behind : {X : Type 0} (xs ys : List X) (i : ℕ) → slice_get (xs ++ ys) (length xs + i) ≡ slice_get ys i
slice_get-behind [] ys i = ap (slice_get ys) (zero-add i)
slice_get-behind (x ∷ xs) ys i = let more : suc (length xs) + i ≡ suc (length xs + i) = omega arith in ap (slice_get (x ∷ (xs ++ ys))) more ∙ slice_get-behind xs ys i

pub kinds_of-push : (bs : List OuterBinding) (b : OuterBinding) → kinds_of (bs ++ b ∷ []) ≡ kinds_of bs ++ kinds_in b.kind
kinds_of-push [] b = append-nil (kinds_in b.kind)
kinds_of-push (x ∷ bs) b = ap (λ rest. kinds_in x.kind ++ rest) (kinds_of-push bs b) ∙ sym (append_assoc (kinds_in x.kind) (kinds_of bs) (kinds_in b.kind))

pub kinds_at : (bs : List OuterBinding) (i j : ℕ) (b : OuterBinding) → slice_get bs i ≡ Some b → j < length (kinds_in b.kind) → slice_get (kinds_of bs) (length (kinds_of (take i bs)) + j) ≡ slice_get (kinds_in b.kind) j
kinds_at [] i j b e h = cc (e)
kinds_at (x ∷ bs) zero j b e h =
    let same : x ≡ b = some_same e in
    ap (slice_get (kinds_in x.kind ++ kinds_of bs)) (zero-add j) ∙ (ap (λ (y : OuterBinding). slice_get (kinds_in y.kind ++ kinds_of bs) j) same ∙ slice_get-front (kinds_in b.kind) (kinds_of bs) j h)
  where
    some_same : Some x ≡ Some b → x ≡ b
    some_same f = cc (f)
kinds_at (x ∷ bs) (suc i) j b e h =
    ap (λ n. slice_get (kinds_in x.kind ++ kinds_of bs) (n + j)) (length-append (kinds_in x.kind) (kinds_of (take i bs)))
    ∙ (ap (slice_get (kinds_in x.kind ++ kinds_of bs)) (add_assoc (length (kinds_in x.kind)) (length (kinds_of (take i bs))) j)
    ∙ (slice_get-behind (kinds_in x.kind) (kinds_of bs) (length (kinds_of (take i bs)) + j) ∙ kinds_at bs i j b e h))

pub class_stands : (o : Outer) (name : Text) (place start : ℕ) (b : OuterBinding) (k : ClassKind) → find (λ x. bytes_eq name x.name) o.bindings ≡ slice_get o.bindings place → slice_get o.bindings place ≡ Some b → b.kind ≡ outer.Class k
    → start ≡ length (kinds_of (take place o.bindings)) → StandsAt (kinds_of o.bindings) (class_kind (outer_kind o name)) (Some start)
class_stands o name place start b k found at is begin = (
  k,
  (
    ap (λ f. class_kind (kind_of_outer f)) (found ∙ at) ∙ ap class_kind is,
    ap (slice_get (kinds_of o.bindings)) (begin ∙ omega arith)
        ∙ (kinds_at o.bindings place 0 b at (subst (λ q. 0 < length (kinds_in q)) (sym is) (omega arith)) ∙ ap (λ q. slice_get (kinds_in q) 0) is),
  ),
)

-- a binding that is none of a class
pub no_class : (o : Outer) (name : Text) (place : ℕ) (b : OuterBinding) → find (λ x. bytes_eq name x.name) o.bindings ≡ slice_get o.bindings place → slice_get o.bindings place ≡ Some b → class_kind b.kind ≡ None → class_kind (outer_kind o name) ≡ None
no_class o name place b found at none = ap (λ f. class_kind (kind_of_outer f)) (found ∙ at) ∙ none

-- an element within a list
pub there : {X : Type 0} (xs : List X) (i : ℕ) → i < length xs → (x : X) × (slice_get xs i ≡ Some x)
there [] i h = absurd (omega (arith, h))
there (x ∷ xs) zero h = (x, refl)
there (x ∷ xs) (suc i) h = there xs i (omega (arith, h))

-- the class at a place of a module among its classes
pub member_stands : (o : Outer) (from name : Text) (place start inside : ℕ) (b : OuterBinding) (cs : List ModuleClass) → find (λ x. bytes_eq from x.name) o.bindings ≡ slice_get o.bindings place → slice_get o.bindings place ≡ Some b → b.kind ≡ outer.Module cs
    → start ≡ length (kinds_of (take place o.bindings)) → inside < length cs → find (λ c. bytes_eq name c.name) cs ≡ slice_get cs inside
    → (start + inside < length (kinds_of o.bindings)) × StandsAt (kinds_of o.bindings) (class_of_module (module_classes (outer_kind o from)) name) (Some (start + inside))
member_stands o from name place start inside b cs found at is begin within first =
    let inside_of : inside < length (kinds_in b.kind) = subst (λ k. inside < length (kinds_in k)) (sym is) (rw (length-map cs (λ (c : ModuleClass). c.class)) within) in
    let c : (x : ModuleClass) × (slice_get cs inside ≡ Some x) = there cs inside within in
    let kind : outer_kind o from ≡ outer.Module cs = ap kind_of_outer (found ∙ at) ∙ is in
    let stands : slice_get (kinds_of o.bindings) (start + inside) ≡ Some (c.0).class =
    ap (λ n. slice_get (kinds_of o.bindings) (n + inside)) begin
    ∙ (kinds_at o.bindings place inside b at inside_of
    ∙ (ap (λ k. slice_get (kinds_in k) inside) is ∙ (slice_get-map (λ (m : ModuleClass). m.class) cs inside ∙ ap (option_map (λ (m : ModuleClass). m.class)) c.1)))
    in
    (slice_get_within (kinds_of o.bindings) (start + inside) (c.0).class stands, ((c.0).class, (ap (λ k. class_of_module (module_classes k) name) kind ∙ ap kind_of_member (first ∙ c.1), stands)))

-- one that is none of a module
pub no_member : (o : Outer) (from name : Text) (place : ℕ) (b : OuterBinding) → find (λ x. bytes_eq from x.name) o.bindings ≡ slice_get o.bindings place → slice_get o.bindings place ≡ Some b → class_of_module (module_classes b.kind) name ≡ None → class_of_module (module_classes (outer_kind o from)) name ≡ None
no_member o from name place b found at none = ap (λ f. class_of_module (module_classes (kind_of_outer f)) name) (found ∙ at) ∙ none

-- a class stands in a module alone
pub is_module : (k : OuterKind) (i : ℕ) → i < length (module_classes k) → k ≡ outer.Module (module_classes k)
is_module (outer.Class c) i h = absurd (omega (arith, h))
is_module (outer.Module cs) i h = refl
is_module outer.Other i h = absurd (omega (arith, h))

-- the class of that name where a binding has one, and else none
pub member_found : (o : Outer) (from name : Text) (place : ℕ) (inside : Option ℕ) (members : List (NameMap ℕ)) → AreMembers o.bindings members → IsPlace (λ (b : OuterBinding). bytes_eq from b.name) o.bindings (Some place)
    → inside ≡ found_inside (slice_get members place) name → (b : OuterBinding) × ((slice_get o.bindings place ≡ Some b) × IsPlace (λ (c : ModuleClass). bytes_eq name c.name) (module_classes b.kind) inside)
member_found o from name place inside members all p is =
    let b : (x : OuterBinding) × (slice_get o.bindings place ≡ Some x) = there o.bindings place p.0 in
    let m : (places : NameMap ℕ) × ((slice_get members place ≡ Some places) × ArePlaces member_name (module_classes (b.0).kind) places) = all place b.0 b.1 in
    let same : inside ≡ found m.0 name = is ∙ ap (λ (q : Option (NameMap ℕ)). found_inside q name) (m.1).0 in
    (b.0, (b.1, subst (λ (q : Option ℕ). IsPlace (λ (c : ModuleClass). bytes_eq name c.name) (module_classes (b.0).kind) q) (sym same) ((m.1).1 name)))

pub some_member : (o : Outer) (from name : Text) (place start inside : ℕ) (members : List (NameMap ℕ)) → AreMembers o.bindings members → IsPlace (λ (b : OuterBinding). bytes_eq from b.name) o.bindings (Some place)
    → Some inside ≡ found_inside (slice_get members place) name → start ≡ length (kinds_of (take place o.bindings))
    → (start + inside < length (kinds_of o.bindings)) × StandsAt (kinds_of o.bindings) (class_of_module (module_classes (outer_kind o from)) name) (Some (start + inside))
some_member o from name place start inside members all p is begin =
    let m : (b : OuterBinding) × ((slice_get o.bindings place ≡ Some b) × IsPlace (λ (c : ModuleClass). bytes_eq name c.name) (module_classes b.kind) (Some inside)) = member_found o from name place (Some inside) members all p is in
    let q : IsPlace (λ (c : ModuleClass). bytes_eq name c.name) (module_classes (m.0).kind) (Some inside) = (m.1).1 in
    member_stands o from name place start inside m.0 (module_classes (m.0).kind) p.1 (m.1).0 (is_module (m.0).kind inside q.0) begin q.0 q.1

pub none_member : (o : Outer) (from name : Text) (place : ℕ) (members : List (NameMap ℕ)) → AreMembers o.bindings members → IsPlace (λ (b : OuterBinding). bytes_eq from b.name) o.bindings (Some place)
    → None ≡ found_inside (slice_get members place) name → class_of_module (module_classes (outer_kind o from)) name ≡ None
none_member o from name place members all p is =
    let m : (b : OuterBinding) × ((slice_get o.bindings place ≡ Some b) × IsPlace (λ (c : ModuleClass). bytes_eq name c.name) (module_classes b.kind) None) = member_found o from name place None members all p is in
    no_member o from name place m.0 p.1 (m.1).0 (ap kind_of_member (m.1).1)

-- one binding more
pub members-push : (bs : List OuterBinding) (ms : List (NameMap ℕ)) (b : OuterBinding) (m : NameMap ℕ) → length ms ≡ length bs → AreMembers bs ms → ArePlaces member_name (module_classes b.kind) m → AreMembers (bs ++ b ∷ []) (ms ++ m ∷ [])
members-push [] [] b m e all one zero x at = (m, (refl, subst (λ (y : OuterBinding). ArePlaces member_name (module_classes y.kind) m) (same_binding at) one))
  where
    same_binding : {y : OuterBinding} → Some y ≡ Some x → y ≡ x
    same_binding f = cc (f)
members-push [] [] b m e all one (suc i) x at = cc (at)
members-push [] (y ∷ ms) b m e all one i x at = absurd (omega (arith, e))
members-push (y ∷ bs) [] b m e all one i x at = absurd (omega (arith, e))
members-push (y ∷ bs) (z ∷ ms) b m e all one zero x at = all zero x at
members-push (y ∷ bs) (z ∷ ms) b m e all one (suc i) x at = members-push bs ms b m (omega (arith, e)) (λ place c is. all (suc place) c is) one i x at

-- one start more
pub starts-push : (bs : List OuterBinding) (i : ℕ) (starts now : List ℕ) (start : ℕ) → now ≡ starts ++ start ∷ [] → start ≡ length (kinds_of (take i bs)) → length starts ≡ i
    → ((place : ℕ) → place < i → slice_get starts place ≡ Some (length (kinds_of (take place bs)))) → (place : ℕ) → place < i + 1 → slice_get now place ≡ Some (length (kinds_of (take place bs)))
starts-push bs i starts now start added is count begins place h =
    ap (λ (xs : List ℕ). slice_get xs place) added ∙ elim (lt_or_eq place i h) [
      | inl lt ↦ slice_get-front starts (start ∷ []) place (subst (λ n. place < n) (sym count) lt) ∙ begins place lt
      | inr same ↦ ap (slice_get (starts ++ start ∷ [])) (same ∙ (sym count ∙ sym (add-zero (length starts)))) ∙ (slice_get-behind starts (start ∷ []) 0 ∙ (ap Some is ∙ ap (λ n. Some (length (kinds_of (take n bs)))) (sym same)))
    ]
  where
    lt_or_eq : (a b : ℕ) → a < b + 1 → (a < b) ⊎ (a ≡ b)
    lt_or_eq zero zero g = inr refl
    lt_or_eq zero (suc b) g = inl (omega arith)
    lt_or_eq (suc a) zero g = absurd (omega (arith, g))
    lt_or_eq (suc a) (suc b) g = elim (lt_or_eq a b (omega (arith, g))) [ inl l ↦ inl (omega (arith, l)) | inr e ↦ inr (ap suc e) ]

    add-zero : (n : ℕ) → n + 0 ≡ n
    add-zero n = omega arith

pub same_some : (a b : ℕ) → Some a ≡ Some b → a ≡ b
same_some a b e = cc (e)
