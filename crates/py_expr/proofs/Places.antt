-- The place that a target is.
use Rattle.std.proofs.Common.{◌≡◌, true, false, List, Option, Some, None, MatchOption, refl, sym, ◌∙◌, subst, arith}
use Rattle.py_tree.specs.Syntax as x
use Rattle.py_tree.specs.Syntax.{Text, Expression, Target}
use Rattle.py_tree.specs.Nesting.{nesting}
use Rattle.py_tree.specs.Joined.{expression_of, target_of}
use Rattle.py_tree.specs.declared.expression.Expr.{Expr}
use Rattle.py_tree.specs.declared.expression.Target as tree
use Rattle.py_tree.specs.declared.expression.Target.TheVariants as made
use Rattle.py_phrases.specs.declared.phrase.Phrase.{Phrase}
use Rattle.py_phrases.specs.declared.phrase.Built.{Built}
use Rattle.py_phrases.specs.declared.phrase.Built.TheVariants.{Shallow, TooDeep}
use Rattle.py_phrases.specs.Grammar.{Tokens, L}
use Rattle.py_phrases.specs.Ends.{IsEnd}
use Rattle.py_phrases.specs.Phrases.{IsTarget, BuildsTarget}
use Rattle.py_expr.specs.Readings.{IsBuilt, both_built}
use Rattle.py_expr.specs.Statements.{IsWhole, AllOfList, PartsAt, Parts, is_place, IsPlaceBuilt, BuildsPlace}
use Rattle.py_expr.proofs.OneForm.{OneFront, one_assigned}
use Rattle.py_phrases.proofs.Builds.{one_front}
use Rattle.py_expr.proofs.Wholes.{both_are}
use Rattle.py_phrases.specs.Targets as target
use Rattle.py_phrases.specs.Targets.{Place, Assigned, target_nesting}

one : OneFront
one k s r q d e y h z h' = let a = one_front y h z h' in record { thing = a.tree; rest = a.rest }

names_are_no_place : (b : Built tree.Target) (names : List Text) → IsBuilt target_of target_nesting (x.ToNames names) b → true ≡ is_place b → ⊥
names_are_no_place (Shallow (made.Names ns)) names h is = absurd cc
names_are_no_place (Shallow (made.Name n)) names h is = let e = h.1 in absurd cc
names_are_no_place (Shallow (made.Attr e n)) names h is = let e = h.1 in absurd cc
names_are_no_place (Shallow (made.Index e i)) names h is = let e = h.1 in absurd cc
names_are_no_place TooDeep names h is = absurd (omega (arith, h))

place_built : (s r : Tokens) (g : Target) (b : Built tree.Target) → Assigned s r g → IsBuilt target_of target_nesting g b → true ≡ is_place b → IsPlaceBuilt s r (Some b)
place_built s r g b (target.to_place p) built is = (g, p, built)
place_built s r _ b (target.to_names {names = names} m) built is = absurd (names_are_no_place b names built is)
place_built _ r _ b (target.to_names_in_parentheses {names = names} m) built is = absurd (names_are_no_place b names built is)

target_is_place : (s r : Tokens) (b : Built tree.Target) → IsTarget s r (Some b) → true ≡ is_place b → IsPlaceBuilt s r (Some b)
target_is_place s r (Shallow a) h is = place_built s r (target_of a) (Shallow a) h.0 (h.1, refl) is
target_is_place s r TooDeep h is = place_built s r h.0 TooDeep h.1 h.2 is

place_there : (phrase : Phrase) (b : Built tree.Target) → BuildsTarget phrase (Some b) → true ≡ is_place b → BuildsPlace phrase (Some b)
place_there phrase b builds is s r e front = target_is_place s r b (builds s r e front) is

no_names_place : (s r : Tokens) (names : List Text) → Place s r (x.ToNames names) → ⊥
no_names_place s r names p = elim p [ ]

no_names_there : (s r : Tokens) (g h : Target) (names : List Text) → g ≡ x.ToNames names → Assigned s r g → IsEnd L r → Place s r h → ⊥
no_names_there s r g h names is d ends p =
    let same : h ≡ x.ToNames names = sym (one_assigned one s r r g h d ends (target.to_place p) ends).thing ∙ is in
    no_names_place s r names (subst (Place s r) same p)

names_there : (s r : Tokens) (b : Built tree.Target) → IsTarget s r (Some b) → false ≡ is_place b → IsEnd L r → (g : Target) → Place s r g → ⊥
names_there s r (Shallow (made.Names ns)) h is ends g p = no_names_there s r (target_of (made.Names ns)) g ns refl h.0 ends p
names_there s r b h is ends g p = absurd cc

only_names : (phrase : Phrase) (b : Built tree.Target) → BuildsTarget phrase (Some b) → false ≡ is_place b → BuildsPlace phrase None
only_names phrase b builds is s r e front = names_there s r b (builds s r e front) is front.ends

pub only_place : (phrase : Phrase) (o : Option (Built tree.Target)) (b : Built tree.Target) (found : Option (Built tree.Target)) → o ≡ Some b → BuildsTarget phrase o → MatchOption found (is_place b ≡ false) (λ place. (place ≡ b) × (is_place b ≡ true)) → BuildsPlace phrase found
only_place phrase o b None h builds is = only_names phrase b (subst (BuildsTarget phrase) h builds) (sym is)
only_place phrase o b (Some place) h builds is = subst (λ z. BuildsPlace phrase (Some z)) (sym is.0) (place_there phrase b (subst (BuildsTarget phrase) h builds) (sym is.1))

pub no_target_there : (phrase : Phrase) (o : Option (Built tree.Target)) → o ≡ None → BuildsTarget phrase o → BuildsPlace phrase None
no_target_there phrase o h builds s r e front g p = subst (IsTarget s r) h (builds s r e front) g (target.to_place p)

-- ---- a target or place, and a value

pub target_there : (s r : Tokens) (b : Built tree.Target) → IsTarget s r (Some b) → (g : Target) × Assigned s r g × IsBuilt target_of target_nesting g b
target_there s r (Shallow a) h = (target_of a, h.0, (h.1, refl))
target_there s r TooDeep h = (h.0, h.1, h.2)

parts_there : (Aims : Tokens → Tokens → Target → Type 0) (s r m : Tokens) (b : Built tree.Target) (v : Built Expr) → (g : Target) × Aims s r g × IsBuilt target_of target_nesting g b → IsWhole AllOfList expression_of nesting m v → PartsAt Aims s r m (Some (both_built b v))
parts_there Aims s r m b v aim f = (aim.0, f.thing, aim.1, f.stands, both_are target_of target_nesting expression_of nesting aim.0 f.thing b v aim.2 f.is_built)

pub target_parts : (m : Tokens) (phrase : Phrase) (o : Option (Built tree.Target)) (b : Built tree.Target) (v : Built Expr) (both : Built (tree.Target × Expr)) → o ≡ Some b → BuildsTarget phrase o → IsWhole AllOfList expression_of nesting m v → both ≡ both_built b v → Parts Assigned phrase m (Some both)
target_parts m phrase o b v both h builds f is = subst (λ z. Parts Assigned phrase m (Some z)) (sym is) (λ s r e front. parts_there Assigned s r m b v (target_there s r b (subst (IsTarget s r) h (builds s r e front))) f)

pub place_parts : (m : Tokens) (phrase : Phrase) (o : Option (Built tree.Target)) (b : Built tree.Target) (v : Built Expr) (both : Built (tree.Target × Expr)) → o ≡ Some b → BuildsPlace phrase o → IsWhole AllOfList expression_of nesting m v → both ≡ both_built b v → Parts Place phrase m (Some both)
place_parts m phrase o b v both h builds f is = subst (λ z. Parts Place phrase m (Some z)) (sym is) (λ s r e front. parts_there Place s r m b v (subst (IsPlaceBuilt s r) h (builds s r e front)) f)

pub no_target_part : (m : Tokens) (phrase : Phrase) (o : Option (Built tree.Target)) → o ≡ None → BuildsTarget phrase o → Parts Assigned phrase m None
no_target_part m phrase o h builds s r e front g v d i = subst (IsTarget s r) h (builds s r e front) g d

pub no_place_part : (m : Tokens) (phrase : Phrase) (o : Option (Built tree.Target)) → o ≡ None → BuildsPlace phrase o → Parts Place phrase m None
no_place_part m phrase o h builds s r e front g v d i = subst (IsPlaceBuilt s r) h (builds s r e front) g d

pub no_value_part : (Aims : Tokens → Tokens → Target → Type 0) (m : Tokens) (phrase : Phrase) → ((e : Expression) → AllOfList m e → ⊥) → Parts Aims phrase m None
no_value_part Aims m phrase none s r e front g v d i = none v i
