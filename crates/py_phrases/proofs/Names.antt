-- Lists newest first: names that are pointed to, and frames.
use Rattle.std.proofs.Common.{◌≡◌, ◌-◌, ℕ, length, take, drop, List, [], ◌∷◌, ◌++◌, map, reverse, refl, sym, ap, ◌∙◌, arith}
use Rattle.std.proofs.lemmas.List.{reverse-append, take-append-drop, length-drop}
use Rattle.py_phrases.specs.declared.machine.Frame as code
use Rattle.py_phrases.specs.Views.{frame_of, frames_of, rest}

pub newest_first : {X Y : Type 0} → (f : X → Y) (xs : List X) (y : X) → map f (reverse (xs ++ y ∷ [])) ≡ f y ∷ map f (reverse xs)
newest_first f xs y = ap (map f) (reverse-append xs (y ∷ []))

one_left : {X : Type 0} → (xs : List X) → length xs ≡ 1 → (y : X) × (xs ≡ y ∷ [])
one_left [] e = absurd (omega (arith, e))
one_left (y ∷ []) e = (y, refl)
one_left (y ∷ z ∷ xs) e = absurd (omega (arith, e))

split_last : {X : Type 0} → (xs : List X) (n : ℕ) → length (drop n xs) ≡ 1 → (y : X) × (take n xs ++ y ∷ [] ≡ xs)
split_last xs n long =
    let y = one_left (drop n xs) long in
    (y.0, ap (λ l. take n xs ++ l) (sym y.1) ∙ take-append-drop n xs)

but_last : {X Y : Type 0} → (f : X → Y) (xs : List X) (n : ℕ) (y : X) → take n xs ++ y ∷ [] ≡ xs → map f (reverse (take n xs)) ≡ rest (map f (reverse xs))
but_last f xs n y whole = sym (ap rest (sym (ap (λ l. map f (reverse l)) whole) ∙ newest_first f (take n xs) y))

-- all but the newest
pub but_newest : (frames : List code.Frame) → frames_of (take (length frames - 1) frames) ≡ rest (frames_of frames)
but_newest [] = refl
but_newest (f ∷ fs) =
    let n = length (f ∷ fs) - 1 in
    let y = split_last (f ∷ fs) n (length-drop n (f ∷ fs) ∙ omega arith) in
    but_last frame_of (f ∷ fs) n y.0 y.1
