-- The first places of names: in a map, and in a list.
use Rattle.std.specs.Prelude.{if◌then◌else◌, nat_lt}
use Rattle.std.proofs.Common.{◌≡◌, ℕ, ◌+◌, ◌<◌, ◌≤◌, Bool, true, false, cond, List, [], ◌∷◌, ◌++◌, length, map, take, get_or, slice_get, Option, Some, None, Bor, is_some, refl, sym, ap, ◌∙◌, arith}
use Rattle.std.proofs.lemmas.Bool.Decides.{nat_tests}
use Rattle.std.proofs.lemmas.List.{take_more, map-append, length-map, length-take}
use Rattle.std.proofs.lemmas.List.Folds.{find_at}
use Rattle.std.proofs.lemmas.Option.{slice_get_past}
use Rattle.std.specs.List.{find, position, position_from, position_or_len}
use Rattle.std.proofs.lemmas.Iterator.Adapters.{position_from-zero}
use Rattle.std.specs.Option.{option_or, option_copied}
use Rattle.std.specs.Str.{bytes_eq}
use Rattle.std.specs.Map.{lookup}
use Rattle.indexmap.specs.IndexMap.{insert_entry}

-- ---- in a map

abbrev pub value : {K V : Type 0} → List (K × V) → (K → List ℕ) → List ℕ → Option V
value es text name = lookup (λ key. bytes_eq name (text key)) es

-- a name that has no value is given one
pub given : {K V : Type 0} (es : List (K × V)) (text : K → List ℕ) (name : List ℕ) (key : K) (v : V) → value es text (text key) ≡ None
    → value (insert_entry (λ a b. bytes_eq (text a) (text b)) es key v) text name ≡ option_or (value es text name) (if bytes_eq name (text key) then Some v else None)
given [] text name key v none = refl
given {K} {V} (e ∷ es) text name key v none = by (bytes_eq (text key) (text e.0)) refl none (given es text name key v)
  where
    by : (b : Bool) → bytes_eq (text key) (text e.0) ≡ b → value (e ∷ es) text (text key) ≡ None → (value es text (text key) ≡ None → value (insert_entry (λ a b. bytes_eq (text a) (text b)) es key v) text name ≡ option_or (value es text name) (if bytes_eq name (text key) then Some v else None))
        → value (insert_entry (λ a b. bytes_eq (text a) (text b)) (e ∷ es) key v) text name ≡ option_or (value (e ∷ es) text name) (if bytes_eq name (text key) then Some v else None)
    by true same none rest = let h : Some e.1 ≡ None = rw same at none in cc (h)
    by false apart none rest =
        let h : value es text (text key) ≡ None = rw apart at none in
        rw apart (elim (bytes_eq name (text e.0)) as (λ b. cond b (Some e.1) (value (insert_entry (λ x y. bytes_eq (text x) (text y)) es key v) text name) ≡ option_or (cond b (Some e.1) (value es text name)) (if bytes_eq name (text key) then Some v else None)) [ true ↦ refl | false ↦ rest h ])

-- a look-up that finds none
pub none_there : {V : Type 0} (o : Option (Bor V)) → is_some o ≡ false → option_copied o ≡ None
none_there None h = refl
none_there (Some v) h = cc

-- ---- in a list

from_push : {X : Type 0} (p : X → Bool) (xs : List X) (y : X) (i : ℕ) → position_from p i (xs ++ y ∷ []) ≡ option_or (position_from p i xs) (if p y then Some (i + length xs) else None)
from_push p [] y i = let e : i ≡ i + 0 = omega arith in ap (λ n. cond (p y) (Some n) None) e
from_push {X} p (x ∷ xs) y i = by (p x) (from_push p xs y (i + 1) ∙ ap (λ n. option_or (position_from p (i + 1) xs) (if p y then Some n else None)) (omega arith))
  where
    by : (b : Bool) → position_from p (i + 1) (xs ++ y ∷ []) ≡ option_or (position_from p (i + 1) xs) (if p y then Some (i + length (x ∷ xs)) else None)
        → cond b (Some i) (position_from p (i + 1) (xs ++ y ∷ [])) ≡ option_or (cond b (Some i) (position_from p (i + 1) xs)) (if p y then Some (i + length (x ∷ xs)) else None)
    by true rest = refl
    by false rest = rest

pub position_push : {X : Type 0} (p : X → Bool) (xs : List X) (y : X) → position p (xs ++ y ∷ []) ≡ option_or (position p xs) (if p y then Some (length xs) else None)
position_push p xs y =
    let none : 0 + length xs ≡ length xs = omega arith in
    position_from-zero p (xs ++ y ∷ []) ∙ from_push p xs y 0 ∙ ap (λ n. option_or (position_from p 0 xs) (if p y then Some n else None)) none
    ∙ ap (λ o. option_or o (if p y then Some (length xs) else None)) (sym (position_from-zero p xs))

-- one more is taken
pub place_more : {X : Type 0} (name_of : X → List ℕ) (xs : List X) (k : ℕ) (x : X) (name : List ℕ) → k < length xs → x ≡ get_or xs k x
    → option_or (position (bytes_eq name) (map name_of (take k xs))) (if bytes_eq name (name_of x) then Some k else None) ≡ position (bytes_eq name) (map name_of (take (k + 1) xs))
place_more name_of xs k x name lt is =
    let so_many : length (map name_of (take k xs)) ≡ k = length-map (take k xs) name_of ∙ length-take k xs ∙ omega arith in
    ap (λ n. option_or (position (bytes_eq name) (map name_of (take k xs))) (if bytes_eq name (name_of x) then Some n else None)) (sym so_many)
    ∙ sym (position_push (bytes_eq name) (map name_of (take k xs)) (name_of x))
    ∙ ap (position (bytes_eq name)) (sym (map-append name_of (take k xs) (x ∷ [])))
    ∙ ap (λ y. position (bytes_eq name) (map name_of (take k xs ++ y ∷ []))) is
    ∙ ap (λ ys. position (bytes_eq name) (map name_of ys)) (sym (take_more xs k x lt))

-- the one at the first place
pub found_at : {X : Type 0} (p : X → Bool) (xs : List X) (n : ℕ) → position p xs ≡ Some n → (n < length xs) × (slice_get xs n ≡ find p xs)
found_at {X} p xs n h = by (nat_lt (position_or_len p xs) (length xs)) refl h
  where
    by : (b : Bool) → nat_lt (position_or_len p xs) (length xs) ≡ b → cond b (Some (position_or_len p xs)) None ≡ Some n → (n < length xs) × (slice_get xs n ≡ find p xs)
    by true e h =
        let same : position_or_len p xs ≡ n = cc in
        (grind (arith, nat_tests), ap (slice_get xs) (sym same) ∙ sym (find_at p xs))
    by false e h = absurd cc

pub none_at : {X : Type 0} (p : X → Bool) (xs : List X) → position p xs ≡ None → find p xs ≡ None
none_at {X} p xs h = by (nat_lt (position_or_len p xs) (length xs)) refl h
  where
    by : (b : Bool) → nat_lt (position_or_len p xs) (length xs) ≡ b → cond b (Some (position_or_len p xs)) None ≡ None → find p xs ≡ None
    by true e h = absurd cc
    by false e h =
        let past : length xs ≤ position_or_len p xs = grind (arith, nat_tests) in
        find_at p xs ∙ slice_get_past xs (position_or_len p xs) past
