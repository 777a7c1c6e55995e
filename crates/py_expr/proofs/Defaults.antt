-- Parameters with defaults and without.
use Rattle.std.proofs.Common.{◌≡◌, Bool, true, false, not, ◌&&◌, ◌||◌, List, [], ◌∷◌, ◌++◌, is_some, refl, sym, ap, ◌∙◌}
use Rattle.std.proofs.lemmas.Bool.{and_from, and_left, and_parts, and_right}
use Rattle.py_tree.specs.Syntax.{Param}
use Rattle.py_expr.specs.Lines.{all_have_defaults, defaults_last}

abbrev pub some_default : List Param → Bool
some_default [] = false
some_default (p ∷ ps) = is_some p.default || some_default ps

-- where there was a default, there is one here
abbrev pub Later : Bool → Bool → Type 0
Later before here = before ≡ true → here ≡ true

pub none_before : (before here : Bool) → before ≡ false → Later before here
none_before before here h = λ e. let both : true ≡ false = sym e ∙ h in absurd cc

pub is_later : (before here : Bool) → Later before here → before || here ≡ here
is_later false here h = refl
is_later true here h = sym (h refl)

or_false : (b : Bool) → b || false ≡ b
or_false true = refl
or_false false = refl

or_assoc : (a b c : Bool) → a || (b || c) ≡ (a || b) || c
or_assoc true b c = refl
or_assoc false b c = refl

pub some_more : (ps : List Param) (p : Param) → some_default (ps ++ p ∷ []) ≡ some_default ps || is_some p.default
some_more [] p = or_false (is_some p.default)
some_more (a ∷ ps) p = ap (λ b. is_some a.default || b) (some_more ps p) ∙ or_assoc (is_some a.default) (some_default ps) (is_some p.default)

all_more : (ps : List Param) (p : Param) → all_have_defaults ps ≡ true → is_some p.default ≡ true → all_have_defaults (ps ++ p ∷ []) ≡ true
all_more [] p h g = and_from (is_some p.default) true g refl
all_more (a ∷ ps) p h g =
    let x = and_parts (is_some a.default) (all_have_defaults ps) h in and_from (is_some a.default) (all_have_defaults (ps ++ p ∷ [])) x.0 (all_more ps p x.1 g)

unless : (a b : Bool) → (a ≡ true → b ≡ true) → not a || b ≡ true
unless true b h = h refl
unless false b h = refl

then : (a b : Bool) → not a || b ≡ true → a ≡ true → b ≡ true
then true b h e = h
then false b h e = absurd cc

some_left : (a b : Bool) → a ≡ true → a || b ≡ true
some_left true b h = refl
some_left false b h = absurd cc

some_right : (a b : Bool) → b ≡ true → a || b ≡ true
some_right true b h = refl
some_right false b h = h

pub ordered_more : (ps : List Param) (p : Param) → defaults_last ps ≡ true → Later (some_default ps) (is_some p.default) → defaults_last (ps ++ p ∷ []) ≡ true
ordered_more [] p h g = and_from (not (is_some p.default) || true) true (unless (is_some p.default) true (λ e. refl)) refl
ordered_more (a ∷ ps) p h g =
    let x = and_parts (not (is_some a.default) || all_have_defaults ps) (defaults_last ps) h in
    let here : not (is_some a.default) || all_have_defaults (ps ++ p ∷ []) ≡ true
    = unless (is_some a.default) (all_have_defaults (ps ++ p ∷ []))
    (λ e. all_more ps p (then (is_some a.default) (all_have_defaults ps) x.0 e) (g (some_left (is_some a.default) (some_default ps) e))) in
    and_from (not (is_some a.default) || all_have_defaults (ps ++ p ∷ [])) (defaults_last (ps ++ p ∷ [])) here
    (ordered_more ps p x.1 (λ e. g (some_right (is_some a.default) (some_default ps) e)))

not_all : (ps qs : List Param) (p : Param) → is_some p.default ≡ false → all_have_defaults (ps ++ p ∷ qs) ≡ false
not_all [] qs p h = and_left (is_some p.default) (all_have_defaults qs) h
not_all (a ∷ ps) qs p h = and_right (is_some a.default) (all_have_defaults (ps ++ p ∷ qs)) (not_all ps qs p h)

pub disordered : (ps : List Param) (p : Param) (qs : List Param) → some_default ps ≡ true → is_some p.default ≡ false → defaults_last (ps ++ p ∷ qs) ≡ false
disordered [] p qs h g = absurd cc
disordered (a ∷ ps) p qs h g = by_first (is_some a.default) (all_have_defaults (ps ++ p ∷ qs)) (defaults_last (ps ++ p ∷ qs)) (some_default ps) h (not_all ps qs p g) (λ e. disordered ps p qs e g) where
  by_first : (a all rest some : Bool) → a || some ≡ true → all ≡ false → (some ≡ true → rest ≡ false) → (not a || all) && rest ≡ false
  by_first true all rest some h k g = and_left all rest k
  by_first false all rest some h k g = g h
