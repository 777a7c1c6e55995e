-- The places at which a part stands in a text.
use Rattle.std.proofs.Common.{◌≡◌, ◌≢◌, ◌≤◌, ◌<◌, ◌+◌, ℕ, zero, suc, Bool, true, false, ◌||◌, ◌⊎◌, [], ◌∷◌, length, drop, nat_eq, refl, sym, ap, ◌∙◌, arith, inl, inr}
use Rattle.std.specs.List.{starts_with}
use Rattle.py_tree.specs.Syntax.{Text}
use Rattle.atom_ops.specs.Operators.{contains}
use Rattle.atom_ops.specs.Search.{IsNowhere, StandsAt}
use Rattle.atom_ops.specs.Shared.{shared}
use Rattle.atom_ops.proofs.Shared.{begins, begun, within_both}

pub stands : (part text : Text) (place count : ℕ) → place ≤ length text → count ≡ shared (drop place text) part → count ≡ length part → StandsAt part text place
stands part text place count h is whole = (h, begins (drop place text) part (sym is ∙ whole))

pub not_before : (part text : Text) (from place count : ℕ) → ((earlier : ℕ) → from ≤ earlier → earlier < place → StandsAt part text earlier → ⊥) → count ≡ shared (drop place text) part → count ≢ length part
    → (earlier : ℕ) → from ≤ earlier → earlier < place + 1 → StandsAt part text earlier → ⊥
not_before part text from place count none is other earlier after before h = by (split earlier place before) where
  split : (e p : ℕ) → e < p + 1 → (e < p) ⊎ (e ≡ p)
  split zero zero h = inr refl
  split zero (suc p) h = inl (omega arith)
  split (suc e) zero h = absurd (omega (arith, h))
  split (suc e) (suc p) h = up (split e p (omega (arith, h))) where
    up : (e < p) ⊎ (e ≡ p) → (suc e < suc p) ⊎ (suc e ≡ suc p)
    up (inl l) = inl (omega (arith, l))
    up (inr q) = inr (ap suc q)

  by : (earlier < place) ⊎ (earlier ≡ place) → ⊥
  by (inl l) = none earlier after l h
  by (inr e) = other (is ∙ ap (λ p. shared (drop p text) part) (sym e) ∙ begun (drop earlier text) part h.1)

nothing : (part : Text) → part ≢ [] → starts_with nat_eq [] part ≡ true → ⊥
nothing [] other h = other refl
nothing (y ∷ ys) other h = let none : 0 ≡ length (y ∷ ys) = begun [] (y ∷ ys) h in absurd (omega (arith, none))

drop_all : (xs : Text) (n : ℕ) → length xs ≤ n → drop n xs ≡ []
drop_all [] zero h = refl
drop_all [] (suc n) h = refl
drop_all (x ∷ xs) zero h = absurd (omega (arith, h))
drop_all (x ∷ xs) (suc n) h = drop_all xs n (omega (arith, h))

at_end : (part text : Text) (place : ℕ) → part ≢ [] → length text ≤ place → StandsAt part text place → ⊥
at_end part text place other past h = nothing part other (sym (ap (λ xs. starts_with nat_eq xs part) (drop_all text place past)) ∙ h.1)

pub nowhere : (part text : Text) (from end : ℕ) → part ≢ [] → length text ≤ end → ((earlier : ℕ) → from ≤ earlier → earlier < end → StandsAt part text earlier → ⊥) → IsNowhere part text from
nowhere part text from end other past none place after h = by (split place end) where
  split : (p e : ℕ) → (p < e) ⊎ (e ≤ p)
  split p zero = inr (omega arith)
  split zero (suc e) = inl (omega arith)
  split (suc p) (suc e) = up (split p e) where
    up : (p < e) ⊎ (e ≤ p) → (suc p < suc e) ⊎ (suc e ≤ suc p)
    up (inl l) = inl (omega (arith, l))
    up (inr q) = inr (omega (arith, q))

  by : (place < end) ⊎ (end ≤ place) → ⊥
  by (inl l) = none place after l h
  by (inr q) = at_end part text place other (omega (arith, past, q)) h

-- ---- whether it stands in the text

pub contained : (part text : Text) (place : ℕ) → StandsAt part text place → contains part text ≡ true
contained part [] zero h = h.1
contained part [] (suc place) h = absurd (omega (arith, h.0))
contained part (x ∷ xs) zero h = ap (λ b. b || contains part xs) h.1
contained part (x ∷ xs) (suc place) h = by (starts_with nat_eq (x ∷ xs) part) (contained part xs place (omega (arith, h.0), h.1)) where
  by : (b : Bool) → contains part xs ≡ true → b || contains part xs ≡ true
  by true e = refl
  by false e = e

place_of : (part text : Text) → contains part text ≡ true → (place : ℕ) × StandsAt part text place
place_of part [] h = (0, (omega arith, h))
place_of part (x ∷ xs) h = by (starts_with nat_eq (x ∷ xs) part) refl (place_of part xs) h where
  by : (b : Bool) → starts_with nat_eq (x ∷ xs) part ≡ b → (contains part xs ≡ true → (place : ℕ) × StandsAt part xs place) → b || contains part xs ≡ true → (place : ℕ) × StandsAt part (x ∷ xs) place
  by true e rest h = (0, (omega arith, e))
  by false e rest h = let found = rest h in (suc found.0, (omega (arith, found.1.0), found.1.1))

pub not_contained : (part text : Text) → IsNowhere part text 0 → false ≡ contains part text
not_contained part text none = by (contains part text) (place_of part text) where
  by : (b : Bool) → (b ≡ true → (place : ℕ) × StandsAt part text place) → false ≡ b
  by true found = let at = found refl in absurd (none at.0 (omega arith) at.1)
  by false found = refl

pub too_long : (part text : Text) → length text < length part → IsNowhere part text 0
too_long part text less place after h =
    let whole = begun (drop place text) part h.1 in
    let within = within_both (drop place text) part in
    absurd (omega (arith, whole, within.0, less, shorter text place)) where
      shorter : (xs : Text) (n : ℕ) → length (drop n xs) ≤ length xs
      shorter xs zero = omega arith
      shorter [] (suc n) = omega arith
      shorter (x ∷ xs) (suc n) = omega (arith, shorter xs n)
