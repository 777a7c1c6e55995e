-- The values of names.
use Rattle.std.specs.Prelude.{if◌then◌else◌}
use Rattle.std.proofs.Common.{◌≡◌, ℕ, Bool, true, false, cond, List, [], ◌∷◌, Option, Some, None, Bor, is_some, refl, subst}
use Rattle.std.proofs.lemmas.Slice.Eq.{bytes_eq-Decides}
use Rattle.std.specs.Option.{option_or, option_copied}
use Rattle.std.specs.Str.{bytes_eq}
use Rattle.std.specs.Map.{lookup}
use Rattle.indexmap.specs.IndexMap.{insert_entry}

abbrev pub value : {V : Type 0} → List ℕ → List (Bor (List ℕ) × V) → Option V
value name es = lookup (λ key. bytes_eq name key.now) es

-- a name that has no value is given one
pub given : {V : Type 0} (name : List ℕ) (es : List (Bor (List ℕ) × V)) (key : Bor (List ℕ)) (v : V) → value key.now es ≡ None
    → value name (insert_entry (λ a b. bytes_eq a.now b.now) es key v) ≡ option_or (value name es) (if bytes_eq name key.now then Some v else None)
given name [] key v none = refl
given {V} name (e ∷ es) key v none = by (bytes_eq key.now e.0.now) refl none (given name es key v)
  where
    by : (b : Bool) → bytes_eq key.now e.0.now ≡ b → value key.now (e ∷ es) ≡ None → (value key.now es ≡ None → value name (insert_entry (λ a b. bytes_eq a.now b.now) es key v) ≡ option_or (value name es) (if bytes_eq name key.now then Some v else None))
        → value name (insert_entry (λ a b. bytes_eq a.now b.now) (e ∷ es) key v) ≡ option_or (value name (e ∷ es)) (if bytes_eq name key.now then Some v else None)
    by true same none rest = let h : Some e.1 ≡ None = rw same at none in cc (h)
    by false apart none rest =
        let h : value key.now es ≡ None = rw apart at none in
        rw apart (elim (bytes_eq name e.0.now) as (λ b. cond b (Some e.1) (value name (insert_entry (λ x y. bytes_eq x.now y.now) es key v)) ≡ option_or (cond b (Some e.1) (value name es)) (if bytes_eq name key.now then Some v else None)) [ true ↦ refl | false ↦ rest h ])

-- a look-up that finds none
pub none_there : {V : Type 0} (o : Option (Bor V)) → is_some o ≡ false → option_copied o ≡ None
none_there None h = refl
none_there (Some v) h = cc

-- a name is given a value in place of the one that it has
pub replaced : {V : Type 0} (name : List ℕ) (es : List (Bor (List ℕ) × V)) (key : Bor (List ℕ)) (v : V)
    → value name (insert_entry (λ a b. bytes_eq a.now b.now) es key v) ≡ (if bytes_eq name key.now then Some v else value name es)
replaced name [] key v = refl
replaced {V} name (e ∷ es) key v = by (bytes_eq key.now e.0.now) refl (replaced name es key v)
  where
    by : (b : Bool) → bytes_eq key.now e.0.now ≡ b → value name (insert_entry (λ a b. bytes_eq a.now b.now) es key v) ≡ (if bytes_eq name key.now then Some v else value name es)
        → value name (insert_entry (λ a b. bytes_eq a.now b.now) (e ∷ es) key v) ≡ (if bytes_eq name key.now then Some v else value name (e ∷ es))
    by true same rest =
        let is : key.now ≡ e.0.now = (bytes_eq-Decides key.now e.0.now).0 same in
        rw same (rw is (elim (bytes_eq name e.0.now) as (λ b. cond b (Some v) (value name es) ≡ (if b then Some v else cond b (Some e.1) (value name es))) [ true ↦ refl | false ↦ refl ]))
    by false apart rest =
        rw apart (elim (bytes_eq name e.0.now) as (λ b. bytes_eq name e.0.now ≡ b → cond b (Some e.1) (value name (insert_entry (λ x y. bytes_eq x.now y.now) es key v)) ≡ (if bytes_eq name key.now then Some v else cond b (Some e.1) (value name es))) [
          | true ↦ λ t. other (bytes_eq name key.now) refl t
          | false ↦ λ t. rest
        ] refl)
      where
        other : (b : Bool) → bytes_eq name key.now ≡ b → bytes_eq name e.0.now ≡ true → Some e.1 ≡ (if b then Some v else Some e.1)
        other false n t = refl
        other true n t =
            let is : name ≡ key.now = (bytes_eq-Decides name key.now).0 n in
            let both : bytes_eq key.now e.0.now ≡ true = subst (λ k. bytes_eq k e.0.now ≡ true) is t in
            cc (both, apart)
