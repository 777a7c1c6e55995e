-- The pieces of a text, joined with the part between them, are the text again.
use Rattle.std.proofs.Common.{◌≡◌, refl, sym, ap, ◌∙◌, arith, ℕ, zero, suc, ◌-◌, nat_eq, Bool, true, false, if◌then◌else◌, [], ◌∷◌, ◌++◌, length, drop}
use Rattle.std.specs.List.{starts_with}
use Rattle.std.proofs.lemmas.Bool.Decides.{Decides-eqb}
use Rattle.std.proofs.lemmas.List.{append_assoc}
use Rattle.std.proofs.lemmas.Slice.Eq.{starts_is}
use Rattle.py_tree.specs.Syntax.{Text}
use Rattle.py_meaning.specs.Laws.{PiecesJoin}
use Rattle.py_meaning.specs.Methods.{joined, after_each, pieces}

module _ (first : ℕ) (more : Text) where
  abbrev part : Text
  part = first ∷ more

  -- how much of the text is of a place of the part behind its first code point
  abbrev behind_first : ℕ
  behind_first = length part - 1

  -- there is always a piece, so that the part stands before what is joined of them
  behind : (within : ℕ) (piece text : Text) → after_each part (pieces part within piece text) ≡ part ++ joined part (pieces part within piece text)
  behind within piece [] = append_assoc part piece []
  behind (suc within) piece (point ∷ rest) = behind within piece rest
  behind zero piece (point ∷ rest) = by (starts_with nat_eq (point ∷ rest) part) (behind zero (piece ++ point ∷ []) rest) where
    next : Text
    next = piece ++ point ∷ []

    by : (starts : Bool) → after_each part (pieces part zero next rest) ≡ part ++ joined part (pieces part zero next rest)
        → after_each part (if starts then piece ∷ pieces part behind_first [] rest else pieces part zero next rest)
        ≡ part ++ joined part (if starts then piece ∷ pieces part behind_first [] rest else pieces part zero next rest)
    by true h = append_assoc part piece (after_each part (pieces part behind_first [] rest))
    by false h = h

  -- the piece that has begun, and then the text behind the place that the part has now
  walked : (within : ℕ) (piece text : Text) → joined part (pieces part within piece text) ≡ piece ++ drop within text
  walked zero piece [] = refl
  walked (suc within) piece [] = refl
  walked (suc within) piece (point ∷ rest) = walked within piece rest
  walked zero piece (point ∷ rest) = by (starts_with nat_eq (point ∷ rest) part) refl (walked behind_first [] rest) (walked zero (piece ++ point ∷ []) rest) where
    next : Text
    next = piece ++ point ∷ []

    as_many : behind_first ≡ length more
    as_many = omega arith

    by : (starts : Bool) → starts_with nat_eq (point ∷ rest) part ≡ starts → joined part (pieces part behind_first [] rest) ≡ drop behind_first rest
        → joined part (pieces part zero next rest) ≡ next ++ rest
        → joined part (if starts then piece ∷ pieces part behind_first [] rest else pieces part zero next rest) ≡ piece ++ point ∷ rest
    by true h found other = ap (λ t. piece ++ t) (behind behind_first [] rest ∙ (ap (λ t. part ++ t) (found ∙ ap (λ n. drop n rest) as_many) ∙ sym ((starts_is Decides-eqb (point ∷ rest) part (starts_with nat_eq (point ∷ rest) part) refl).0 h)))
    by false h found other = other ∙ append_assoc piece (point ∷ []) rest

pub pieces_join : PiecesJoin
pieces_join [] text some = absurd (some refl)
pieces_join (first ∷ more) text some = walked first more zero [] text
