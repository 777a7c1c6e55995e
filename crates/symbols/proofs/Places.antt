-- The place of the first thing of each name, where one more stands behind the others.
use Rattle.std.proofs.Common.{◌≡◌, ◌<◌, ◌∙◌, ℕ, zero, suc, Bool, true, false, List, [], ◌∷◌, ◌++◌, length, Option, Some, None, refl, ap, sym, subst, arith, length-append}
use Rattle.std.specs.Prelude.{if◌then◌else◌, slice_get}
use Rattle.std.specs.List.{find}
use Rattle.std.specs.Option.{option_or}
use Rattle.std.specs.Str.{bytes_eq}
use Rattle.std.proofs.lemmas.List.Folds.{find-append}
use Rattle.py_tree.specs.Syntax.{Text}
use Rattle.symbols.specs.declared.name_map.NameMap.{NameMap}
use Rattle.symbols.specs.Names.{found}
use Rattle.symbols.specs.Places.{IsPlace, ArePlaces}

at_front : {X : Type 0} (xs ys : List X) (i : ℕ) (y : Option X) → i < length xs → option_or (slice_get xs i) y ≡ slice_get (xs ++ ys) i
at_front [] ys i y h = absurd (omega (arith, h))
at_front (x ∷ xs) ys zero y h = refl
at_front (x ∷ xs) ys (suc i) y h = at_front xs ys i y (omega (arith, h))

at_end : {X : Type 0} (xs : List X) (x : X) → slice_get (xs ++ x ∷ []) (length xs) ≡ Some x
at_end [] x = refl
at_end (y ∷ ys) x = at_end ys x

found_last : {X : Type 0} (test : X → Bool) (xs : List X) (x : X) (t : Bool) → find test xs ≡ None → test x ≡ t → find test (xs ++ x ∷ []) ≡ (if t then Some x else None)
found_last test xs x t e f = find-append test xs (x ∷ []) ∙ (ap (λ o. option_or o (find test (x ∷ []))) e ∙ ap (λ b. if b then Some x else None) f)

one_more : {X : Type 0} (test : X → Bool) (xs : List X) (x : X) (old : Option ℕ) → IsPlace test xs old → IsPlace test (xs ++ x ∷ []) (option_or old (if test x then Some (length xs) else None))
one_more test xs x (Some i) (h, e) = (
  simp length-append (omega (arith, h)),
  find-append test xs (x ∷ []) ∙ (ap (λ o. option_or o (find test (x ∷ []))) e ∙ at_front xs (x ∷ []) i (find test (x ∷ [])) h),
)
one_more test xs x None e = subst (λ t. IsPlace test (xs ++ x ∷ []) (if t then Some (length xs) else None)) refl (by (test x) refl)
  where
    by : (t : Bool) → test x ≡ t → IsPlace test (xs ++ x ∷ []) (if t then Some (length xs) else None)
    by true f = (simp length-append (omega arith), found_last test xs x true e f ∙ sym (at_end xs x))
    by false f = found_last test xs x false e f

pub kept : {X : Type 0} (name_of : X → Text) (xs all : List X) (x : X) (key : Text) (count : ℕ) (old now : NameMap ℕ) → name_of x ≡ key → count ≡ length xs → all ≡ xs ++ x ∷ []
    → ((name : Text) → found now name ≡ option_or (found old name) (if bytes_eq name key then Some count else None))
    → ArePlaces name_of xs old → ArePlaces name_of all now
kept {X} name_of xs all x key count old now named counted added put places name =
    let place : found now name ≡ option_or (found old name) (if bytes_eq name (name_of x) then Some (length xs) else None) =
    put name
    ∙ (ap (λ k. option_or (found old name) (if bytes_eq name k then Some count else None)) (sym named)
    ∙ ap (λ n. option_or (found old name) (if bytes_eq name (name_of x) then Some n else None)) counted)
    in
    subst (λ (ys : List X). IsPlace (λ y. bytes_eq name (name_of y)) ys (found now name)) (sym added)
    (subst (λ o. IsPlace (λ y. bytes_eq name (name_of y)) (xs ++ x ∷ []) o) (sym place) (one_more (λ y. bytes_eq name (name_of y)) xs x (found old name) (places name)))
