-- What is found of phrases, and of what has them in it.
use Rattle.std.proofs.Common.{◌≡◌, ℕ, Bool, false, ◌∷◌, Option, Some, None, is_some, refl, sym, ap, subst, ◌∙◌, arith}
use Rattle.py_tree.specs.Syntax.{Text, Expression, Param}
use Rattle.py_tree.specs.Nesting.{nesting}
use Rattle.py_tree.specs.Joined.{expression_of, maybe_of, param_of}
use Rattle.py_tree.specs.declared.expression.Param as tree
use Rattle.py_tree.specs.declared.expression.Expr.{Expr}
use Rattle.py_lexer.specs.declared.token.Token.TheVariants as token
use Rattle.py_lexer.specs.declared.token.Mark.TheVariants as mark
use Rattle.py_phrases.specs.declared.phrase.Phrase.{Phrase}
use Rattle.py_phrases.specs.declared.phrase.Built.{Built}
use Rattle.py_phrases.specs.declared.phrase.Built.TheVariants.{Shallow, TooDeep}
use Rattle.py_expr.specs.declared.found.Found as reading
use Rattle.py_phrases.specs.Tokens as t
use Rattle.py_phrases.specs.Grammar.{Tokens, Level, E, Spells}
use Rattle.py_phrases.specs.Ends.{IsEnd}
use Rattle.py_phrases.specs.Phrases.{Is, AtFront, IsExpression, BuildsExpression}
use Rattle.py_expr.specs.Lines as l
use Rattle.py_expr.specs.Lines.{Annotation, Default, Parameter, Result}
use Rattle.py_expr.specs.LineEnds.{Anything, EndsAnnotation, EndsParameter}
use Rattle.py_expr.specs.Depth.{maybe_nesting, param_nesting}
use Rattle.py_expr.specs.Readings.{Same, IsBuilt, FoundAt, IsFound, BeforeColon, built_on, both_built}
use Rattle.py_expr.specs.Signatures.{IsParam, begins_default}
use Rattle.py_expr.proofs.OneForm.{annotation_ends, parameter_ends, default_begins}
use Rattle.py_phrases.proofs.Builds.{one_front}

expression_built : (e : Expression) (b : Built Expr) → IsExpression e b → IsBuilt expression_of nesting e b
expression_built e (Shallow made) h = h
expression_built e TooDeep h = h

-- a phrase
pub phrase_found : (k : Level) (s : Tokens) (o : Option Phrase) (phrase : Phrase) (b : Built Expr) → o ≡ Some phrase → AtFront k s o → BuildsExpression phrase b → IsFound (Spells k) (IsEnd k) expression_of nesting s b phrase.rest.now
phrase_found k s o phrase b some h builds =
    let front : AtFront k s (Some phrase) = subst (AtFront k s) some h in
    let e : Expression = front.0 in
    let is : Is phrase k s phrase.rest.now e = front.1 in
    record {
      thing = e;
      stands = is.spells;
      only = λ q z d i. let x = one_front is.spells is.ends d i in record { thing = x.tree; rest = x.rest };
      is_built = expression_built e b (builds k s phrase.rest.now e is);
    }

-- of a reading that found something, and of one that didn't
pub some_found : {T Y : Type 0} {Stands : Tokens → Tokens → Y → Type 0} {ends : Tokens → Type 0} {view : T → Y} {depth : Y → ℕ} {s : Tokens} {o : Option (reading.Found T)} {f : reading.Found T}
    → o ≡ Some f → FoundAt Stands ends view depth s o → IsFound Stands ends view depth s f.built f.rest.now
some_found {Stands = Stands} {ends = ends} {view = view} {depth = depth} {s = s} is h = subst (FoundAt Stands ends view depth s) is h

pub none_found : {T Y : Type 0} (Stands : Tokens → Tokens → Y → Type 0) (ends : Tokens → Type 0) (view : T → Y) (depth : Y → ℕ) (s : Tokens) {o : Option (reading.Found T)}
    → o ≡ None → FoundAt Stands ends view depth s o → (q : Tokens) (z : Y) → Stands s q z → ends q → ⊥
none_found Stands ends view depth s is h = subst (FoundAt Stands ends view depth s) is h

-- with what was built and what follows under other names
pub under : {T Y : Type 0} {Stands : Tokens → Tokens → Y → Type 0} {ends : Tokens → Type 0} {view : T → Y} {depth : Y → ℕ} {s : Tokens} {b b' : Built T} {r r' : Tokens}
    → b' ≡ b → r' ≡ r → IsFound Stands ends view depth s b r → IsFound Stands ends view depth s b' r'
under {Stands = Stands} {ends = ends} {view = view} {depth = depth} {s = s} {b' = b'} {r = r} is_b is_r f =
    subst (λ y. IsFound Stands ends view depth s b' y) (sym is_r) (subst (λ y. IsFound Stands ends view depth s y r) (sym is_b) f)

-- ---- annotations, defaults and results

some_built : (e : Expression) (b : Built Expr) → IsBuilt expression_of nesting e b → IsBuilt maybe_of maybe_nesting (Some e) (built_on Some b)
some_built e (Shallow made) h = (h.0, ap Some h.1)
some_built e TooDeep h = h

none_built : IsBuilt maybe_of maybe_nesting None (Shallow None)
none_built = (omega arith, refl)

pub annotated_found : (s m r : Tokens) (b : Built Expr) → s ≡ t.colon ∷ m → IsFound (Spells E) (IsEnd E) expression_of nesting m b r → IsFound Annotation EndsAnnotation maybe_of maybe_nesting s (built_on Some b) r
annotated_found s m r b h f =
    subst (λ y. IsFound Annotation EndsAnnotation maybe_of maybe_nesting y (built_on Some b) r) (sym h) (record {
      thing = Some f.thing;
      stands = l.annotated f.stands;
      only = λ q z d i. only_annotated q z d i;
      is_built = some_built f.thing b f.is_built;
    }) where
      only_annotated : (q : Tokens) (z : Option Expression) → Annotation (t.colon ∷ m) q z → EndsAnnotation q → Same (Some f.thing) z r q
      only_annotated q _ l.unannotated i = absurd i
      only_annotated q _ (l.annotated {e = e} d) i = let x = f.only q e d (annotation_ends q i) in record { thing = ap Some x.thing; rest = x.rest }

pub not_annotated : (s m : Tokens) → s ≡ t.colon ∷ m → ((q : Tokens) (z : Expression) → Spells E m q z → IsEnd E q → ⊥) → (q : Tokens) (z : Option Expression) → Annotation s q z → EndsAnnotation q → ⊥
not_annotated s m h none q z d i = only_annotated q z (subst (λ y. Annotation y q z) h d) i where
  only_annotated : (q : Tokens) (z : Option Expression) → Annotation (t.colon ∷ m) q z → EndsAnnotation q → ⊥
  only_annotated q _ l.unannotated i = i
  only_annotated q _ (l.annotated {e = e} d) i = none q e d (annotation_ends q i)

pub unannotated_found : (s : Tokens) → ((m : Tokens) → s ≡ t.colon ∷ m → ⊥) → IsFound Annotation EndsAnnotation maybe_of maybe_nesting s (Shallow None) s
unannotated_found s h = record { thing = None; stands = l.unannotated; only = λ q z d i. only_none s q z h d; is_built = none_built } where
  only_none : (s q : Tokens) (z : Option Expression) → ((m : Tokens) → s ≡ t.colon ∷ m → ⊥) → Annotation s q z → Same None z s q
  only_none s _ _ h l.unannotated = record { thing = refl; rest = refl }
  only_none _ _ _ h (l.annotated {s = s} d) = absurd (h s refl)

pub default_found : (s m r : Tokens) (b : Built Expr) → s ≡ t.equal ∷ m → IsFound (Spells E) (IsEnd E) expression_of nesting m b r → IsFound Default EndsParameter maybe_of maybe_nesting s (built_on Some b) r
default_found s m r b h f =
    subst (λ y. IsFound Default EndsParameter maybe_of maybe_nesting y (built_on Some b) r) (sym h) (record {
      thing = Some f.thing;
      stands = l.a_default f.stands;
      only = λ q z d i. only_default q z d i;
      is_built = some_built f.thing b f.is_built;
    }) where
      only_default : (q : Tokens) (z : Option Expression) → Default (t.equal ∷ m) q z → EndsParameter q → Same (Some f.thing) z r q
      only_default q _ l.no_default i = absurd i
      only_default q _ (l.a_default {e = e} d) i = let x = f.only q e d (parameter_ends q i) in record { thing = ap Some x.thing; rest = x.rest }

pub no_default_found : (s : Tokens) → ((m : Tokens) → s ≡ t.equal ∷ m → ⊥) → IsFound Default EndsParameter maybe_of maybe_nesting s (Shallow None) s
no_default_found s h = record { thing = None; stands = l.no_default; only = λ q z d i. only_none s q z h d; is_built = none_built } where
  only_none : (s q : Tokens) (z : Option Expression) → ((m : Tokens) → s ≡ t.equal ∷ m → ⊥) → Default s q z → Same None z s q
  only_none s _ _ h l.no_default = record { thing = refl; rest = refl }
  only_none _ _ _ h (l.a_default {s = s} d) = absurd (h s refl)

pub result_found : (s m r : Tokens) (b : Built Expr) → s ≡ t.arrow ∷ m → IsFound BeforeColon Anything expression_of nesting m b r → IsFound Result Anything maybe_of maybe_nesting s (built_on Some b) r
result_found s m r b h f =
    subst (λ y. IsFound Result Anything maybe_of maybe_nesting y (built_on Some b) r) (sym h) (record {
      thing = Some f.thing;
      stands = l.a_result f.stands;
      only = λ q z d i. only_result q z d;
      is_built = some_built f.thing b f.is_built;
    }) where
      only_result : (q : Tokens) (z : Option Expression) → Result (t.arrow ∷ m) q z → Same (Some f.thing) z r q
      only_result q _ (l.a_result {e = e} d) = let x = f.only q e d tt in record { thing = ap Some x.thing; rest = x.rest }

pub no_result_found : (s m : Tokens) → s ≡ t.colon ∷ m → IsFound Result Anything maybe_of maybe_nesting s (Shallow None) m
no_result_found s m h =
    subst (λ y. IsFound Result Anything maybe_of maybe_nesting y (Shallow None) m) (sym h) (record { thing = None; stands = l.no_result; only = λ q z d i. only_none q z d; is_built = none_built }) where
      only_none : (q : Tokens) (z : Option Expression) → Result (t.colon ∷ m) q z → Same None z m q
      only_none q _ l.no_result = record { thing = refl; rest = refl }

pub no_result : (s : Tokens) → ((m : Tokens) → s ≡ t.colon ∷ m → ⊥) → ((m : Tokens) → s ≡ t.arrow ∷ m → ⊥) → (q : Tokens) (z : Option Expression) → Result s q z → Anything q → ⊥
no_result _ h k q _ l.no_result i = h q refl
no_result _ h k q _ (l.a_result {s = s} d) i = k s refl

-- ---- parameters

parameter_only : (m r q : Tokens) (n : Text) (k d : Option Expression) (x : Tokens) (z : Param) → ((q : Tokens) (z : Option Expression) → Annotation m q z → EndsAnnotation q → Same k z x q)
    → ((q : Tokens) (z : Option Expression) → Default x q z → EndsParameter q → Same d z r q) → Parameter (token.Name n ∷ m) q z → EndsParameter q → Same (record { name = n; kind = k; default = d }) z r q
parameter_only m r q n k d x _ kinds defaults (l.a_parameter {m = y} {k = k'} {d = d'} u v) i =
    let first = kinds y k' u (default_begins v i) in
    let here : x ≡ y = first.rest in
    let second = defaults q d' (subst (λ o. Default o q d') (sym here) v) i in
    let same_kinds : k ≡ k' = first.thing in
    let same_defaults : d ≡ d' = second.thing in
    record { thing = cc; rest = second.rest }

no_default_begins : (r : Tokens) → EndsParameter r → false ≡ begins_default r
no_default_begins (token.Mark mark.Comma ∷ r) h = refl
no_default_begins (token.Mark mark.RightParen ∷ r) h = refl
no_default_begins r h = absurd h

default_is : {s r : Tokens} {d : Option Expression} → Default s r d → EndsParameter r → is_some d ≡ begins_default s
default_is {r = r} l.no_default h = no_default_begins r h
default_is (l.a_default d) h = refl

pub parameter_found : (s m x r : Tokens) (n : Text) (kind default : Built (Option Expr)) (b : Built tree.Param) (has_default : Bool) → s ≡ token.Name n ∷ m
    → IsFound Annotation EndsAnnotation maybe_of maybe_nesting m kind x → IsFound Default EndsParameter maybe_of maybe_nesting x default r → has_default ≡ begins_default x
    → ((k d : Option Expression) → IsBuilt maybe_of maybe_nesting k kind → IsBuilt maybe_of maybe_nesting d default → IsBuilt param_of param_nesting (record { name = n; kind = k; default = d }) b)
    → IsParam s b has_default r
parameter_found s m x r n kind default b has_default h f g is makes =
    subst (λ y. IsParam y b has_default r) (sym h) (record {
      found = record {
        thing = record { name = n; kind = f.thing; default = g.thing };
        stands = l.a_parameter f.stands g.stands;
        only = λ q z d i. parameter_only m r q n f.thing g.thing x z f.only g.only d i;
        is_built = makes f.thing g.thing f.is_built g.is_built;
      };
      default = λ ends. default_is g.stands ends ∙ sym is;
    })

pub no_kind : (s m : Tokens) (n : Text) → s ≡ token.Name n ∷ m → ((q : Tokens) (z : Option Expression) → Annotation m q z → EndsAnnotation q → ⊥) → (q : Tokens) (z : Param) → Parameter s q z → EndsParameter q → ⊥
no_kind s m n h none q z d i = at q z (subst (λ y. Parameter y q z) h d) i where
  at : (q : Tokens) (z : Param) → Parameter (token.Name n ∷ m) q z → EndsParameter q → ⊥
  at q _ (l.a_parameter {m = y} {k = k} u v) i = none y k u (default_begins v i)

pub no_default_behind : (s m x : Tokens) (n : Text) (kind : Built (Option Expr)) → s ≡ token.Name n ∷ m → IsFound Annotation EndsAnnotation maybe_of maybe_nesting m kind x
    → ((q : Tokens) (z : Option Expression) → Default x q z → EndsParameter q → ⊥) → (q : Tokens) (z : Param) → Parameter s q z → EndsParameter q → ⊥
no_default_behind s m x n kind h f none q z d i = at q z (subst (λ y. Parameter y q z) h d) i where
  at : (q : Tokens) (z : Param) → Parameter (token.Name n ∷ m) q z → EndsParameter q → ⊥
  at q _ (l.a_parameter {m = y} {k = k} {d = d} u v) i = none q d (subst (λ o. Default o q d) (sym (f.only y k u (default_begins v i)).rest) v) i

-- what is built of both is deep where one of them is
pub both_deep : (n : Text) (k d : Option Expression) (kind default : Built (Option Expr)) → IsBuilt maybe_of maybe_nesting k kind → IsBuilt maybe_of maybe_nesting d default
    → both_built kind default ≡ TooDeep → IsBuilt param_of param_nesting (record { name = n; kind = k; default = d }) TooDeep
both_deep n k d (Shallow a) (Shallow c) h g is = absurd cc
both_deep n k d (Shallow a) TooDeep h g is = omega (arith, g)
both_deep n k d TooDeep default h g is = omega (arith, h)

pub both_shallow : (n copy : Text) (k d : Option Expression) (kind default : Built (Option Expr)) (a c : Option Expr) → IsBuilt maybe_of maybe_nesting k kind → IsBuilt maybe_of maybe_nesting d default
    → both_built kind default ≡ Shallow (a, c) → copy ≡ n → IsBuilt param_of param_nesting (record { name = n; kind = k; default = d }) (Shallow (record { name = copy; kind = a; default = c }))
both_shallow n copy k d (Shallow a') (Shallow c') a c h g is same =
    let pairs : (a', c') ≡ (a, c) = cc in
    let first : a' ≡ a = ap (λ (p : Option Expr × Option Expr). p.0) pairs in
    let second : c' ≡ c = ap (λ (p : Option Expr × Option Expr). p.1) pairs in
    let kinds : maybe_of a ≡ k = ap maybe_of (sym first) ∙ h.1 in
    let defaults : maybe_of c ≡ d = ap maybe_of (sym second) ∙ g.1 in
    (omega (arith, h.0, g.0), cc)
both_shallow n copy k d (Shallow a') TooDeep a c h g is same = absurd cc
both_shallow n copy k d TooDeep default a c h g is same = absurd cc
