-- What ends with the line.
use Rattle.std.proofs.Common.{◌≡◌, ℕ, max, [], ◌∷◌, Option, Some, None, refl, sym, ap, subst, arith}
use Rattle.py_tree.specs.Syntax.{Expression}
use Rattle.py_tree.specs.Nesting.{nesting}
use Rattle.py_tree.specs.Joined.{expression_of, maybe_of}
use Rattle.py_tree.specs.declared.expression.Expr.{Expr}
use Rattle.py_phrases.specs.declared.phrase.Built.{Built}
use Rattle.py_phrases.specs.declared.phrase.Built.TheVariants.{Shallow, TooDeep}
use Rattle.py_phrases.specs.Tokens as t
use Rattle.py_phrases.specs.Grammar.{Tokens, Spells, E}
use Rattle.py_phrases.specs.Ends.{IsEnd}
use Rattle.py_expr.specs.Lines as l
use Rattle.py_expr.specs.Lines.{Value}
use Rattle.py_expr.specs.Depth.{maybe_nesting}
use Rattle.py_expr.specs.Readings.{IsBuilt, IsFound, built_on, both_built}
use Rattle.py_expr.specs.Statements as w
use Rattle.py_expr.specs.Statements.{IsWhole, WholeAt, AllOfList, Annotated, annotation_of, annotation_nesting, IsLast}

-- under another name
pub whole_under : {T Y : Type 0} {Stands : Tokens → Y → Type 0} {view : T → Y} {depth : Y → ℕ} {s : Tokens} {b b' : Built T} → b' ≡ b → IsWhole Stands view depth s b → IsWhole Stands view depth s b'
whole_under {Stands = Stands} {view = view} {depth = depth} {s = s} e f = subst (λ z. IsWhole Stands view depth s z) (sym e) f

pub some_whole : {T Y : Type 0} {Stands : Tokens → Y → Type 0} {view : T → Y} {depth : Y → ℕ} {s : Tokens} {o : Option (Built T)} {b : Built T} → o ≡ Some b → WholeAt Stands view depth s o → IsWhole Stands view depth s b
some_whole {Stands = Stands} {view = view} {depth = depth} {s = s} is h = subst (WholeAt Stands view depth s) is h

pub none_whole : {T Y : Type 0} (Stands : Tokens → Y → Type 0) (view : T → Y) (depth : Y → ℕ) (s : Tokens) {o : Option (Built T)} → o ≡ None → WholeAt Stands view depth s o → (y : Y) → Stands s y → ⊥
none_whole Stands view depth s is h = subst (WholeAt Stands view depth s) is h

-- ---- a phrase that is all

-- ---- values

some_is : (e : Expression) (b : Built Expr) → IsBuilt expression_of nesting e b → IsBuilt maybe_of maybe_nesting (Some e) (built_on Some b)
some_is e (Shallow made) h = (h.0, ap Some h.1)
some_is e TooDeep h = h

pub value_there : (s r : Tokens) (b : Built Expr) (v : Built (Option Expr)) → s ≡ t.equal ∷ r → v ≡ built_on Some b → IsWhole AllOfList expression_of nesting r b → IsWhole Value maybe_of maybe_nesting s v
value_there s r b v h e f =
    whole_under e (record { thing = Some f.thing; stands = subst (λ z. Value z (Some f.thing)) (sym h) (l.a_value f.stands); is_built = some_is f.thing b f.is_built })

pub value_absent : (s : Tokens) (o : Option (Built (Option Expr))) → ((r : Tokens) → s ≡ t.equal ∷ r → ⊥) → IsLast (Shallow None) s o → WholeAt Value maybe_of maybe_nesting s o
value_absent s None h none = λ v d. at s v d h none where
  at : (s : Tokens) (v : Option Expression) → Value s v → ((r : Tokens) → s ≡ t.equal ∷ r → ⊥) → (s ≡ [] → ⊥) → ⊥
  at _ _ l.no_value h none = none refl
  at _ _ (l.a_value {s = s} d) h none = h s refl
value_absent s (Some last) h is = whole_under is.0 (record { thing = None; stands = subst (λ z. Value z None) (sym is.1) l.no_value; is_built = (omega arith, refl) })

-- ---- annotations

pub both_are : {A B Y Z : Type 0} (view : A → Y) (depth : Y → ℕ) (view' : B → Z) (depth' : Z → ℕ) (y : Y) (z : Z) (b : Built A) (c : Built B) → IsBuilt view depth y b → IsBuilt view' depth' z c
    → IsBuilt (λ (p : A × B). (view p.0, view' p.1)) (λ (p : Y × Z). max (depth p.0) (depth' p.1)) (y, z) (both_built b c)
both_are view depth view' depth' y z (Shallow a) (Shallow d) h g = (omega (arith, h.0, g.0), (let e = h.1 in let f = g.1 in cc))
both_are view depth view' depth' y z (Shallow a) TooDeep h g = omega (arith, g)
both_are view depth view' depth' y z TooDeep c h g = omega (arith, h)

pub value_ends : {r : Tokens} {v : Option Expression} → Value r v → IsEnd E r
value_ends l.no_value = tt
value_ends (l.a_value d) = tt

pub annotation_there : (s r : Tokens) (b : Built Expr) (c : Built (Option Expr)) (both : Built (Expr × Option Expr)) → IsFound (Spells E) (IsEnd E) expression_of nesting s b r → IsWhole Value maybe_of maybe_nesting r c → both ≡ both_built b c
    → IsWhole Annotated annotation_of annotation_nesting s both
annotation_there s r b c both f g e =
    whole_under e (record {
      thing = (f.thing, g.thing);
      stands = w.annotated f.stands g.stands;
      is_built = both_are expression_of nesting maybe_of maybe_nesting f.thing g.thing b c f.is_built g.is_built;
    })

pub no_kind_there : (s : Tokens) → ((q : Tokens) (e : Expression) → Spells E s q e → IsEnd E q → ⊥) → (y : Expression × Option Expression) → Annotated s y → ⊥
no_kind_there s none _ (w.annotated {m = m} {k = k} d u) = none m k d (value_ends u)

pub no_value_behind : (s r : Tokens) (b : Built Expr) → IsFound (Spells E) (IsEnd E) expression_of nesting s b r → ((v : Option Expression) → Value r v → ⊥) → (y : Expression × Option Expression) → Annotated s y → ⊥
no_value_behind s r b f none _ (w.annotated {m = m} {k = k} {v = v} d u) = none v (subst (λ z. Value z v) (sym (f.only m k d (value_ends u)).rest) u)
