-- Spellings of keywords, operators and delimiters.
use Rattle.std.proofs.Common.{◌≡◌, ℕ, Bool, true, false, cond, List, [], ◌∷◌, length, drop, length-drop, ◌<◌, Option, Some, None, refl, sym, ap, ◌∙◌, arith}
use Rattle.std.specs.Prelude.{◌==◌, ◌&&◌}
use Rattle.std.specs.Str.{bytes_eq}
use Rattle.py_lexer.specs.Tokens.{after_spelling}

abbrev is_over : Option (List ℕ) → Bool
is_over (Some []) = true
is_over _ = false

eqb-swap : (c d : ℕ) → (c == d) ≡ (d == c)
eqb-swap c d = grind arith

-- a name is spelled so where nothing stands behind the spelling
whole : (spelling name : List ℕ) → bytes_eq spelling name ≡ is_over (after_spelling spelling name)
whole [] [] = refl
whole [] (d ∷ s) = refl
whole (c ∷ spelling) [] = refl
whole (c ∷ spelling) (d ∷ s) = go (d == c) (eqb-swap c d) (whole spelling s)
  where
    go : (b : Bool) → (c == d) ≡ b → bytes_eq spelling s ≡ is_over (after_spelling spelling s) → ((c == d) && bytes_eq spelling s) ≡ is_over (cond b (after_spelling spelling s) None)
    go true e ih = rw e ih
    go false e ih = rw e refl

pub whole_none : (spelling name : List ℕ) → None ≡ after_spelling spelling name → bytes_eq spelling name ≡ false
whole_none spelling name e = whole spelling name ∙ ap is_over (sym e)

pub spelled_some : (spelling name r : List ℕ) (b : Bool) → Some r ≡ after_spelling spelling name → b ≡ (length r == 0) → b ≡ bytes_eq spelling name
spelled_some spelling name r b e h = h ∙ go r ∙ ap is_over e ∙ sym (whole spelling name)
  where
    go : (r : List ℕ) → (length r == 0) ≡ is_over (Some r)
    go [] = refl
    go (c ∷ r) = grind arith

over_is_none : (spelling r : List ℕ) → 0 < length spelling → length r < 1 → after_spelling spelling r ≡ None
over_is_none [] r h h' = absurd (omega arith)
over_is_none (c ∷ spelling) [] h h' = refl
over_is_none (c ∷ spelling) (d ∷ r) h h' = absurd (omega arith)

pub over_early : (spelling r : List ℕ) (i : ℕ) (o : Option (List ℕ)) → i < length spelling → length r < 1 → after_spelling (drop i spelling) r ≡ o → None ≡ o
over_early spelling r i o h h' e = let some : 0 < length (drop i spelling) = omega (arith, length-drop i spelling) in sym (over_is_none (drop i spelling) r some h') ∙ e
