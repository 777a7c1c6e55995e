-- Simple statements: what each begins with, and what follows a phrase.
use Rattle.std.proofs.Common.{◌≡◌, ◌≤◌, true, false, List, [], ◌∷◌, length, Option, Some, None, Result, Ok, Err, IfOk, refl, sym, ap, subst, ◌∙◌, arith}
use Rattle.std.specs.Bool.{◌==◌}
use Rattle.std.specs.declared.alloc.AllocError.{AllocError}
use Rattle.py_tree.specs.Syntax as x
use Rattle.py_tree.specs.Syntax.{Text, Expression, Target, Kind}
use Rattle.py_tree.specs.Nesting.{nesting}
use Rattle.py_tree.specs.Joined.{expression_of, target_of, kind_of}
use Rattle.py_tree.specs.declared.expression.Expr.{Expr}
use Rattle.py_tree.specs.declared.expression.Target as tree
use Rattle.py_tree.specs.declared.expression.Target.TheVariants as target
use Rattle.py_tree.specs.declared.operator.BinaryOp.{BinaryOp}
use Rattle.py_tree.specs.declared.statement.Import.{Import}
use Rattle.py_tree.specs.declared.statement.StmtKind as code
use Rattle.py_lexer.specs.declared.token.Token.{Token}
use Rattle.py_lexer.specs.declared.token.Token.TheVariants as token
use Rattle.py_lexer.specs.declared.token.Keyword.{Keyword}
use Rattle.py_lexer.specs.declared.token.Keyword.TheVariants as word
use Rattle.py_lexer.specs.declared.token.Mark.{Mark}
use Rattle.py_lexer.specs.declared.token.Mark.TheVariants as mark
use Rattle.py_phrases.specs.declared.phrase.Phrase.{Phrase}
use Rattle.py_phrases.specs.declared.phrase.Built.{Built}
use Rattle.py_phrases.specs.declared.phrase.Built.TheVariants.{Shallow, TooDeep}
use Rattle.py_phrases.specs.Tokens as t
use Rattle.py_phrases.specs.Grammar.{Tokens, L, Spells}
use Rattle.py_phrases.specs.Ends.{IsEnd}
use Rattle.py_expr.specs.Lines as l
use Rattle.py_expr.specs.Lines.{Augmented, Simple, Taken}
use Rattle.py_expr.specs.Depth.{kind_nesting}
use Rattle.py_phrases.specs.Phrases.{Is, AtFront, IsExpression, BuildsExpression}
use Rattle.py_expr.specs.Readings.{IsBuilt, both_built}
use Rattle.py_expr.specs.ImportRuns.{AreImported, AreTaken}
use Rattle.py_expr.specs.Statements as w
use Rattle.py_expr.specs.Statements.{IsWhole, WholeAt, StatementAt, AllOfList, AllOfExpression, Annotated, annotation_of, annotation_nesting, IsLast, Makes, MakesOfBoth, PartsAt, Parts, Annotates, AnnotatesAt, FromAt, annotated_of, annotated_nesting, Augments, IsOther, IsPlain, HasNoWord, StatementBehind}
use Rattle.py_phrases.proofs.TargetPhrases.{as_phrase, place_is, assigned_is}
use Rattle.py_expr.proofs.OneForm.{OneFront, begins, behind, augmented_ends, no_equal, no_colon, no_rest, colon_or_equal, name_phrase, attribute_phrase}
use Rattle.py_phrases.proofs.Builds.{one_front}
use Rattle.py_expr.proofs.Wholes.{whole_under, both_are}
use Rattle.py_expr.proofs.KindsOf.{pass_is, break_is, continue_is, return_is, raise_is, import_is, from_is}
use Rattle.py_phrases.specs.Targets.{Place, Assigned, target_nesting}

one : OneFront
one k s r q d e y h z h' = let a = one_front y h z h' in record { thing = a.tree; rest = a.rest }

-- ---- words

pub is_nil : (s : Tokens) → true ≡ (length s == 0) → s ≡ []
is_nil [] h = refl
is_nil (c ∷ s) h = absurd (grind (arith, h))

pub not_nil : (s : Tokens) → false ≡ (length s == 0) → s ≡ [] → ⊥
not_nil [] h e = absurd cc
not_nil (c ∷ s) h e = absurd cc

-- a word that is a statement by itself
pub pass_alone : (r : Tokens) (o : _) → IsLast (Shallow code.Pass) r o → StatementAt (t.pass_ ∷ r) o
pass_alone r None h = λ k d. at r k d h where
  at : (r : Tokens) (k : Kind) → Simple (t.pass_ ∷ r) k → (r ≡ [] → ⊥) → ⊥
  at _ _ l.a_pass h = h refl
  at _ _ (l.an_expression d) h = begins d
  at _ _ (l.an_assignment u d) h = begins (assigned_is u)
  at _ _ (l.an_augmentation c u d) h = begins (place_is u)
pass_alone r (Some b) h = whole_under h.0 (record { thing = x.Pass; stands = subst (λ z. Simple (t.pass_ ∷ z) x.Pass) (sym h.1) l.a_pass; is_built = (omega arith, pass_is) })

pub break_alone : (r : Tokens) (o : _) → IsLast (Shallow code.Break) r o → StatementAt (t.break_ ∷ r) o
break_alone r None h = λ k d. at r k d h where
  at : (r : Tokens) (k : Kind) → Simple (t.break_ ∷ r) k → (r ≡ [] → ⊥) → ⊥
  at _ _ l.a_break h = h refl
  at _ _ (l.an_expression d) h = begins d
  at _ _ (l.an_assignment u d) h = begins (assigned_is u)
  at _ _ (l.an_augmentation c u d) h = begins (place_is u)
break_alone r (Some b) h = whole_under h.0 (record { thing = x.Break; stands = subst (λ z. Simple (t.break_ ∷ z) x.Break) (sym h.1) l.a_break; is_built = (omega arith, break_is) })

pub continue_alone : (r : Tokens) (o : _) → IsLast (Shallow code.Continue) r o → StatementAt (t.continue_ ∷ r) o
continue_alone r None h = λ k d. at r k d h where
  at : (r : Tokens) (k : Kind) → Simple (t.continue_ ∷ r) k → (r ≡ [] → ⊥) → ⊥
  at _ _ l.a_continue h = h refl
  at _ _ (l.an_expression d) h = begins d
  at _ _ (l.an_assignment u d) h = begins (assigned_is u)
  at _ _ (l.an_augmentation c u d) h = begins (place_is u)
continue_alone r (Some b) h = whole_under h.0 (record { thing = x.Continue; stands = subst (λ z. Simple (t.continue_ ∷ z) x.Continue) (sym h.1) l.a_continue; is_built = (omega arith, continue_is) })

-- behind the word at the front
pub behind_word : (s r : Tokens) (v : Keyword) (w : Keyword) (o : _) → s ≡ token.Word v ∷ r → v ≡ w → StatementAt (token.Word w ∷ r) o → StatementAt s o
behind_word s r v w o h e d = subst (λ z. StatementAt z o) (sym (h ∙ ap (λ z. token.Word z ∷ r) e)) d

pub behind_word_ok : (s r : Tokens) (v : Keyword) (w : Keyword) (o : Result _ AllocError) → s ≡ token.Word v ∷ r → v ≡ w → IfOk o (StatementAt (token.Word w ∷ r)) → IfOk o (StatementAt s)
behind_word_ok s r v w (Ok o) h e d = behind_word s r v w o h e d
behind_word_ok s r v w (Err f) h e d = tt

-- ---- `return` and `raise`

pub return_alone : (r : Tokens) → r ≡ [] → IsWhole Simple kind_of kind_nesting (t.return_ ∷ r) (Shallow (code.Return None))
return_alone r h = record { thing = x.Return None; stands = subst (λ z. Simple (t.return_ ∷ z) (x.Return None)) (sym h) l.a_return; is_built = (omega arith, return_is None) }

pub return_there : (r : Tokens) (b : Built Expr) (k : Built _) → IsWhole AllOfList expression_of nesting r b → Makes (λ e. x.Return (Some e)) b k → IsWhole Simple kind_of kind_nesting (t.return_ ∷ r) k
return_there r b k f makes = record { thing = x.Return (Some f.thing); stands = l.a_return_of f.stands; is_built = makes f.thing f.is_built }

pub no_return : (r : Tokens) → (r ≡ [] → ⊥) → ((e : Expression) → AllOfList r e → ⊥) → (k : Kind) → Simple (t.return_ ∷ r) k → ⊥
no_return _ h none _ l.a_return = h refl
no_return r h none _ (l.a_return_of {e = e} d) = none e d
no_return r h none _ (l.an_expression d) = begins d
no_return r h none _ (l.an_assignment u d) = begins (assigned_is u)
no_return r h none _ (l.an_augmentation c u d) = begins (place_is u)

pub raise_alone : (r : Tokens) → r ≡ [] → IsWhole Simple kind_of kind_nesting (t.raise_ ∷ r) (Shallow (code.Raise None))
raise_alone r h = record { thing = x.Raise None; stands = subst (λ z. Simple (t.raise_ ∷ z) (x.Raise None)) (sym h) l.a_raise; is_built = (omega arith, raise_is None) }

pub raise_there : (r : Tokens) (b : Built Expr) (k : Built _) → IsWhole AllOfExpression expression_of nesting r b → Makes (λ e. x.Raise (Some e)) b k → IsWhole Simple kind_of kind_nesting (t.raise_ ∷ r) k
raise_there r b k f makes = record { thing = x.Raise (Some f.thing); stands = l.a_raise_of f.stands; is_built = makes f.thing f.is_built }

pub no_raise : (r : Tokens) → (r ≡ [] → ⊥) → ((e : Expression) → AllOfExpression r e → ⊥) → (k : Kind) → Simple (t.raise_ ∷ r) k → ⊥
no_raise _ h none _ l.a_raise = h refl
no_raise r h none _ (l.a_raise_of {e = e} d) = none e d
no_raise r h none _ (l.an_expression d) = begins d
no_raise r h none _ (l.an_assignment u d) = begins (assigned_is u)
no_raise r h none _ (l.an_augmentation c u d) = begins (place_is u)

-- ---- imports

pub import_there : (r : Tokens) (is : List Import) (o : Option (List Import)) → o ≡ Some is → AreImported r o → IsWhole Simple kind_of kind_nesting (t.import_ ∷ r) (Shallow (code.Import is))
import_there r is o h are = record { thing = x.Imports is; stands = l.an_import (subst (AreImported r) h are); is_built = (omega arith, import_is is) }

pub no_import : (r : Tokens) (o : Option (List Import)) → o ≡ None → AreImported r o → (k : Kind) → Simple (t.import_ ∷ r) k → ⊥
no_import r o h are k d = at k d (subst (AreImported r) h are) where
  at : (k : Kind) → Simple (t.import_ ∷ r) k → AreImported r None → ⊥
  at _ (l.an_import {is = is} u) none = none is u
  at _ (l.an_expression d) none = begins d
  at _ (l.an_assignment u d) none = begins (assigned_is u)
  at _ (l.an_augmentation c u d) none = begins (place_is u)

pub module_there : (s r : Tokens) (n copy : Text) (is : List Import) (o : Option (List Import)) → s ≡ token.Name n ∷ t.import_ ∷ r → copy ≡ n → o ≡ Some is → AreTaken r o → FromAt s (Some (copy, is))
module_there s r n copy is o h same e are = (r, h ∙ ap (λ z. token.Name z ∷ t.import_ ∷ r) (sym same), subst (AreTaken r) e are)

pub no_names_taken : (s r : Tokens) (n : Text) (o : Option (List Import)) → s ≡ token.Name n ∷ t.import_ ∷ r → o ≡ None → AreTaken r o → FromAt s None
no_names_taken s r n o h e are n' q is i u = subst (AreTaken r) e are is (subst (λ z. Taken z is) (sym (ap (λ z. behind (behind z)) (sym h ∙ i))) u)

pub no_module : (s : Tokens) → ((n : Text) (r : Tokens) → s ≡ token.Name n ∷ t.import_ ∷ r → ⊥) → FromAt s None
no_module s none n r is h u = none n r h

pub from_there : (s : Tokens) (n : Text) (is : List Import) (o : Option (Text × List Import)) → o ≡ Some (n, is) → FromAt s o → IsWhole Simple kind_of kind_nesting (t.from_ ∷ s) (Shallow (code.From n is))
from_there s n is o e are =
    let there : FromAt s (Some (n, is)) = subst (FromAt s) e are in
    record { thing = x.From n is; stands = subst (λ z. Simple (t.from_ ∷ z) (x.From n is)) (sym there.1) (l.a_from there.2); is_built = (omega arith, from_is n is) }

pub no_from : (s : Tokens) (o : Option (Text × List Import)) → o ≡ None → FromAt s o → (k : Kind) → Simple (t.from_ ∷ s) k → ⊥
no_from s o e are k d = at s k d (subst (FromAt s) e are) where
  at : (s : Tokens) (k : Kind) → Simple (t.from_ ∷ s) k → FromAt s None → ⊥
  at _ _ (l.a_from {s = s} {n = n} {is = is} u) h = h n s is refl u
  at s _ (l.an_expression d) h = begins d
  at s _ (l.an_assignment u d) h = begins (assigned_is u)
  at s _ (l.an_augmentation c u d) h = begins (place_is u)

-- ---- annotations

annotation_parts : (g : Target) (s : Tokens) (made : tree.Target) (o : Option (Built (Expr × Option Expr))) (a : Built (Expr × Option Expr)) (b : Built (tree.Target × (Expr × Option Expr))) → target_of made ≡ g → target_nesting g ≤ 200
    → o ≡ Some a → WholeAt Annotated annotation_of annotation_nesting s o → b ≡ both_built (Shallow made) a → AnnotatesAt g s (Some b)
annotation_parts g s made o a b same few h f is = subst (λ z. AnnotatesAt g s (Some z)) (sym is) (at f'.thing f'.stands f'.is_built) where
  f' : IsWhole Annotated annotation_of annotation_nesting s a
  f' = subst (WholeAt Annotated annotation_of annotation_nesting s) h f

  at : (y : Expression × Option Expression) → Annotated s y → IsBuilt annotation_of annotation_nesting y a → AnnotatesAt g s (Some (both_built (Shallow made) a))
  at _ (w.annotated {k = k} {v = v} d u) built = (k, v, w.annotated d u, both_are target_of target_nesting annotation_of annotation_nesting g (k, v) (Shallow made) a (few, same) built)

pub name_parts : (n copy : Text) (s : Tokens) (o : Option (Built (Expr × Option Expr))) (a : Built (Expr × Option Expr)) (b : Built (tree.Target × (Expr × Option Expr))) → copy ≡ n → o ≡ Some a → WholeAt Annotated annotation_of annotation_nesting s o
    → b ≡ both_built (Shallow (target.Name copy)) a → AnnotatesAt (x.ToName n) s (Some b)
name_parts n copy s o a b same h f is = annotation_parts (x.ToName n) s (target.Name copy) o a b (ap x.ToName same) (omega arith) h f is

pub attribute_parts : (n m other : Text) (object : Expr) (s : Tokens) (o : Option (Built (Expr × Option Expr))) (a : Built (Expr × Option Expr)) (b : Built (tree.Target × (Expr × Option Expr))) → expression_of object ≡ x.Name n → other ≡ m → o ≡ Some a
    → WholeAt Annotated annotation_of annotation_nesting s o → b ≡ both_built (Shallow (target.Attr object other)) a → AnnotatesAt (x.ToAttr (x.Name n) m) s (Some b)
attribute_parts n m other object s o a b same same' h f is =
    annotation_parts (x.ToAttr (x.Name n) m) s (target.Attr object other) o a b (ap (λ z. x.ToAttr z other) same ∙ ap (x.ToAttr (x.Name n)) same') (omega arith) h f is

pub no_name_annotation : (n : Text) (r : Tokens) → ((y : Expression × Option Expression) → Annotated r y → ⊥) → (k : Kind) → Simple (token.Name n ∷ t.colon ∷ r) k → ⊥
no_name_annotation n r none _ (l.an_annotation {k = k} {v = v} d u) = none (k, v) (w.annotated d u)
no_name_annotation n r none _ (l.an_expression {e = e} d) = no_rest (one L (token.Name n ∷ t.colon ∷ r) [] (t.colon ∷ r) e (x.Name n) d tt (name_phrase n (t.colon ∷ r)) tt).rest
no_name_annotation n r none _ (l.an_assignment {m = m} {g = g} u d) =
    colon_or_equal (one L (token.Name n ∷ t.colon ∷ r) (t.colon ∷ r) (t.equal ∷ m) (x.Name n) (as_phrase g) (name_phrase n (t.colon ∷ r)) tt (assigned_is u) tt).rest
no_name_annotation n r none _ (l.an_augmentation {m = m} {c = c} {g = g} c' u d) =
    no_colon c' (one L (token.Name n ∷ t.colon ∷ r) (t.colon ∷ r) (c ∷ m) (x.Name n) (as_phrase g) (name_phrase n (t.colon ∷ r)) tt (place_is u) (augmented_ends m c')).rest

pub no_attribute_annotation : (n a : Text) (r : Tokens) → ((y : Expression × Option Expression) → Annotated r y → ⊥) → (k : Kind) → Simple (token.Name n ∷ t.dot ∷ token.Name a ∷ t.colon ∷ r) k → ⊥
no_attribute_annotation n a r none _ (l.an_attribute_annotation {k = k} {v = v} d u) = none (k, v) (w.annotated d u)
no_attribute_annotation n a r none _ (l.an_expression {e = e} d) =
    no_rest (one L (token.Name n ∷ t.dot ∷ token.Name a ∷ t.colon ∷ r) [] (t.colon ∷ r) e (x.Attr (x.Name n) a) d tt (attribute_phrase n a (t.colon ∷ r)) tt).rest
no_attribute_annotation n a r none _ (l.an_assignment {m = m} {g = g} u d) =
    colon_or_equal (one L (token.Name n ∷ t.dot ∷ token.Name a ∷ t.colon ∷ r) (t.colon ∷ r) (t.equal ∷ m) (x.Attr (x.Name n) a) (as_phrase g) (attribute_phrase n a (t.colon ∷ r)) tt (assigned_is u) tt).rest
no_attribute_annotation n a r none _ (l.an_augmentation {m = m} {c = c} {g = g} c' u d) =
    no_colon c' (one L (token.Name n ∷ t.dot ∷ token.Name a ∷ t.colon ∷ r) (t.colon ∷ r) (c ∷ m) (x.Attr (x.Name n) a) (as_phrase g) (attribute_phrase n a (t.colon ∷ r)) tt (place_is u) (augmented_ends m c')).rest

pub name_annotated : (n : Text) (r : Tokens) (o : Option (Built _)) (b : Built _) (k : Built _) → o ≡ Some b → AnnotatesAt (x.ToName n) r o → Annotates b k → IsWhole Simple kind_of kind_nesting (token.Name n ∷ t.colon ∷ r) k
name_annotated n r o b k h f makes =
    let there : AnnotatesAt (x.ToName n) r (Some b) = subst (AnnotatesAt (x.ToName n) r) h f in
    at there.0 there.1 there.2 there.3 where
      at : (e : Expression) (v : Option Expression) → Annotated r (e, v) → IsBuilt annotated_of annotated_nesting (x.ToName n, (e, v)) b → IsWhole Simple kind_of kind_nesting (token.Name n ∷ t.colon ∷ r) k
      at e v (w.annotated d u) built = record { thing = x.Annotate (x.ToName n) e v; stands = l.an_annotation d u; is_built = makes (x.ToName n) e v built }

pub attribute_annotated : (n a : Text) (r : Tokens) (o : Option (Built _)) (b : Built _) (k : Built _) → o ≡ Some b → AnnotatesAt (x.ToAttr (x.Name n) a) r o → Annotates b k → IsWhole Simple kind_of kind_nesting (token.Name n ∷ t.dot ∷ token.Name a ∷ t.colon ∷ r) k
attribute_annotated n a r o b k h f makes =
    let there : AnnotatesAt (x.ToAttr (x.Name n) a) r (Some b) = subst (AnnotatesAt (x.ToAttr (x.Name n) a) r) h f in
    at there.0 there.1 there.2 there.3 where
      at : (e : Expression) (v : Option Expression) → Annotated r (e, v) → IsBuilt annotated_of annotated_nesting (x.ToAttr (x.Name n) a, (e, v)) b → IsWhole Simple kind_of kind_nesting (token.Name n ∷ t.dot ∷ token.Name a ∷ t.colon ∷ r) k
      at e v (w.annotated d u) built = record { thing = x.Annotate (x.ToAttr (x.Name n) a) e v; stands = l.an_attribute_annotation d u; is_built = makes (x.ToAttr (x.Name n) a) e v built }

pub not_annotated : (g : Target) (r : Tokens) (o : Option (Built _)) → o ≡ None → AnnotatesAt g r o → (y : Expression × Option Expression) → Annotated r y → ⊥
not_annotated g r o h f = subst (AnnotatesAt g r) h f

-- ---- what follows a phrase

-- a statement that begins with a phrase with r behind it
data Follows (s r : Tokens) : Kind → Type 0 where
  nothing_follows : {e : Expression} → r ≡ [] → Follows s r (x.Eval e)
  equal_follows : {m : Tokens} {g : Target} {e : Expression} → r ≡ t.equal ∷ m → Assigned s (t.equal ∷ m) g → Spells L m [] e → Follows s r (x.Assign g e)
  mark_follows : {c : Token} {op : BinaryOp} {m : Tokens} {g : Target} {e : Expression} → r ≡ c ∷ m → Augmented c op → Place s (c ∷ m) g → Spells L m [] e → Follows s r (x.Augment g op e)

follows : (s r : Tokens) (e : Expression) (k : Kind) → IsPlain s → Spells L s r e → IsEnd L r → Simple s k → Follows s r k
follows s r e _ plain d i (l.an_expression {e = e'} d') = nothing_follows (one L s r [] e e' d i d' tt).rest
follows s r e _ plain d i (l.an_assignment {m = m} {g = g} u d') = equal_follows (one L s r (t.equal ∷ m) e (as_phrase g) d i (assigned_is u) tt).rest u d'
follows s r e _ plain d i (l.an_augmentation {m = m} {c = c} {g = g} c' u d') = mark_follows (one L s r (c ∷ m) e (as_phrase g) d i (place_is u) (augmented_ends m c')).rest c' u d'
follows _ r e _ plain d i l.a_pass = absurd plain
follows _ r e _ plain d i l.a_break = absurd plain
follows _ r e _ plain d i l.a_continue = absurd plain
follows _ r e _ plain d i l.a_return = absurd plain
follows _ r e _ plain d i (l.a_return_of d') = absurd plain
follows _ r e _ plain d i l.a_raise = absurd plain
follows _ r e _ plain d i (l.a_raise_of d') = absurd plain
follows _ r e _ plain d i (l.an_import u) = absurd plain
follows _ r e _ plain d i (l.a_from u) = absurd plain
follows _ r e _ plain d i (l.an_annotation u v) = absurd plain
follows _ r e _ plain d i (l.an_attribute_annotation u v) = absurd plain

no_phrase : (s : Tokens) → IsPlain s → ((r : Tokens) (e : Expression) → Spells L s r e → IsEnd L r → ⊥) → (k : Kind) → Simple s k → ⊥
no_phrase s plain none _ (l.an_expression {e = e} d) = none [] e d tt
no_phrase s plain none _ (l.an_assignment {m = m} {g = g} u d) = none (t.equal ∷ m) (as_phrase g) (assigned_is u) tt
no_phrase s plain none _ (l.an_augmentation {m = m} {c = c} {g = g} c' u d) = none (c ∷ m) (as_phrase g) (place_is u) (augmented_ends m c')
no_phrase _ plain none _ l.a_pass = plain
no_phrase _ plain none _ l.a_break = plain
no_phrase _ plain none _ l.a_continue = plain
no_phrase _ plain none _ l.a_return = plain
no_phrase _ plain none _ (l.a_return_of d') = plain
no_phrase _ plain none _ l.a_raise = plain
no_phrase _ plain none _ (l.a_raise_of d') = plain
no_phrase _ plain none _ (l.an_import u) = plain
no_phrase _ plain none _ (l.a_from u) = plain
no_phrase _ plain none _ (l.an_annotation u v) = plain
no_phrase _ plain none _ (l.an_attribute_annotation u v) = plain

built_is : (e : Expression) (b : Built Expr) → IsExpression e b → IsBuilt expression_of nesting e b
built_is e (Shallow a) h = h
built_is e TooDeep h = h

pub evaluated_there : (s r : Tokens) (e : Expression) (phrase : Phrase) (b : Built Expr) (k : Built _) → Is phrase L s r e → r ≡ [] → BuildsExpression phrase b → Makes x.Eval b k → IsWhole Simple kind_of kind_nesting s k
evaluated_there s r e phrase b k is h builds makes =
    record { thing = x.Eval e; stands = l.an_expression (subst (λ z. Spells L s z e) h is.spells); is_built = makes e (built_is e b (builds L s r e is)) }

-- neither end, nor equal, nor the mark of an operator
pub nothing_behind : (s r : Tokens) (e : Expression) (phrase : Phrase) → IsPlain s → Is phrase L s r e → (r ≡ [] → ⊥) → ((m : Tokens) → r ≡ t.equal ∷ m → ⊥) → ((op : BinaryOp) (m : Tokens) → Augments r op m → ⊥) → (k : Kind) → Simple s k → ⊥
nothing_behind s r e phrase plain is end equal mark' k d = at k (follows s r e k plain is.spells is.ends d) where
  at : (k : Kind) → Follows s r k → ⊥
  at _ (nothing_follows h) = end h
  at _ (equal_follows {m = m} h u d) = equal m h
  at _ (mark_follows {c = c} {op = op} {m = m} h c' u d) = mark' op m (c, c', h)

-- ---- assignments

pub assigned_there : (s m : Tokens) (e : Expression) (phrase : Phrase) (o : Option (Built (tree.Target × Expr))) (b : Built (tree.Target × Expr)) (k : Built _) → o ≡ Some b → Parts Assigned phrase m o → Is phrase L s (t.equal ∷ m) e → MakesOfBoth x.Assign b k
    → IsWhole Simple kind_of kind_nesting s k
assigned_there s m e phrase o b k h parts is makes =
    let there : PartsAt Assigned s (t.equal ∷ m) m (Some b) = subst (PartsAt Assigned s (t.equal ∷ m) m) h (parts s (t.equal ∷ m) e is) in
    record { thing = x.Assign there.0 there.1; stands = l.an_assignment there.2 there.3; is_built = makes there.0 there.1 there.4 }

no_assigned : (s m : Tokens) (e : Expression) (phrase : Phrase) → IsPlain s → Is phrase L s (t.equal ∷ m) e → ((g : Target) (v : Expression) → Assigned s (t.equal ∷ m) g → AllOfList m v → ⊥) → (k : Kind) → Simple s k → ⊥
no_assigned s m e phrase plain is none k d = at k (follows s (t.equal ∷ m) e k plain is.spells is.ends d) where
  at : (k : Kind) → Follows s (t.equal ∷ m) k → ⊥
  at _ (nothing_follows h) = absurd cc
  at _ (equal_follows {m = q} {g = g} {e = v} h u d) = none g v (subst (λ z. Assigned s z g) (sym h) u) (subst (λ z. Spells L z [] v) (sym (ap behind h)) d)
  at _ (mark_follows h c u d) = no_equal c h

pub no_assignment : (s m : Tokens) (e : Expression) (phrase : Phrase) (o : Option (Built (tree.Target × Expr))) → o ≡ None → Parts Assigned phrase m o → IsPlain s → Is phrase L s (t.equal ∷ m) e → (k : Kind) → Simple s k → ⊥
no_assignment s m e phrase o h parts plain is = no_assigned s m e phrase plain is (subst (PartsAt Assigned s (t.equal ∷ m) m) h (parts s (t.equal ∷ m) e is))

-- ---- augmented assignments

pub operator_there : (s r : Tokens) (m : Mark) (op : BinaryOp) → s ≡ token.Mark m ∷ r → Augmented (token.Mark m) op → Augments s op r
operator_there s r m op h a = (token.Mark m, a, h)

pub no_mark : (s : Tokens) → ((m : Mark) (r : Tokens) → s ≡ token.Mark m ∷ r → ⊥) → (op : BinaryOp) (r : Tokens) → Augments s op r → ⊥
no_mark s none op r a = at a.0 op a.1 a.2 where
  at : (c : Token) (op : BinaryOp) → Augmented c op → s ≡ c ∷ r → ⊥
  at _ _ l.plus_equal h = none mark.PlusEqual r h
  at _ _ l.minus_equal h = none mark.MinusEqual r h
  at _ _ l.star_equal h = none mark.StarEqual r h
  at _ _ l.double_slash_equal h = none mark.DoubleSlashEqual r h
  at _ _ l.percent_equal h = none mark.PercentEqual r h

pub no_operator : (s r : Tokens) (m : Mark) → s ≡ token.Mark m ∷ r → ((op : BinaryOp) → Augmented (token.Mark m) op → ⊥) → (op : BinaryOp) (q : Tokens) → Augments s op q → ⊥
no_operator s r m h none op q a =
    let both : a.0 ∷ q ≡ token.Mark m ∷ r = sym a.2 ∙ h in
    let first : a.0 ≡ token.Mark m = cc in
    none op (subst (λ z. Augmented z op) first a.1)

pub augmented_there : (s r m : Tokens) (e : Expression) (op : BinaryOp) (phrase : Phrase) (o : Option (Built (tree.Target × Expr))) (b : Built (tree.Target × Expr)) (k : Built _) → Augments r op m → o ≡ Some b → Parts Place phrase m o → Is phrase L s r e
    → MakesOfBoth (λ g e. x.Augment g op e) b k → IsWhole Simple kind_of kind_nesting s k
augmented_there s r m e op phrase o b k a h parts is makes =
    let there : PartsAt Place s r m (Some b) = subst (PartsAt Place s r m) h (parts s r e is) in
    record { thing = x.Augment there.0 op there.1; stands = l.an_augmentation a.1 (subst (λ z. Place s z there.0) a.2 there.2) there.3; is_built = makes there.0 there.1 there.4 }

no_augmented : (s r m : Tokens) (e : Expression) (op : BinaryOp) (phrase : Phrase) → IsPlain s → Augments r op m → Is phrase L s r e → ((g : Target) (v : Expression) → Place s r g → AllOfList m v → ⊥) → (k : Kind) → Simple s k → ⊥
no_augmented s r m e op phrase plain a is none k d = at k (follows s r e k plain is.spells is.ends d) where
  at : (k : Kind) → Follows s r k → ⊥
  at _ (nothing_follows h) = no_rest (sym h ∙ a.2)
  at _ (equal_follows h u d) = no_equal a.1 (sym h ∙ a.2)
  at _ (mark_follows {m = q} {g = g} {e = v} h c u d) = none g v (subst (λ z. Place s z g) (sym h) u) (subst (λ z. Spells L z [] v) (ap behind (sym h ∙ a.2)) d)

pub no_augmentation : (s r m : Tokens) (e : Expression) (op : BinaryOp) (phrase : Phrase) (o : Option (Built (tree.Target × Expr))) → o ≡ None → Parts Place phrase m o → IsPlain s → Augments r op m → Is phrase L s r e → (k : Kind) → Simple s k → ⊥
no_augmentation s r m e op phrase o h parts plain a is = no_augmented s r m e op phrase plain a is (subst (PartsAt Place s r m) h (parts s r e is))

-- ---- what follows the phrase

pub equal_ok : (r m : Tokens) (phrase : Phrase) (k : Result (Option (Built _)) AllocError) → r ≡ t.equal ∷ m → IfOk k (StatementBehind phrase (t.equal ∷ m)) → IfOk k (StatementBehind phrase r)
equal_ok r m phrase (Ok k) h f = subst (λ z. StatementBehind phrase z k) (sym h) f
equal_ok r m phrase (Err e) h f = tt

pub operator_ok : (r m : Tokens) (op : BinaryOp) (phrase : Phrase) (k : Result (Option (Built _)) AllocError) → Augments r op m → IfOk k (λ found. (q : Tokens) → Augments q op m → StatementBehind phrase q found) → IfOk k (StatementBehind phrase r)
operator_ok r m op phrase (Ok k) a f = f r a
operator_ok r m op phrase (Err e) a f = tt

-- ---- what begins with no phrase's statement

other : (w : Keyword) → (w ≡ word.Pass → ⊥) → (w ≡ word.Break → ⊥) → (w ≡ word.Continue → ⊥) → (w ≡ word.Return → ⊥) → (w ≡ word.Raise → ⊥) → (w ≡ word.Import → ⊥) → (w ≡ word.From → ⊥) → IsOther w
other word.Pass a b c d e f g = absurd (a refl)
other word.Break a b c d e f g = absurd (b refl)
other word.Continue a b c d e f g = absurd (c refl)
other word.Return a b c d e f g = absurd (d refl)
other word.Raise a b c d e f g = absurd (e refl)
other word.Import a b c d e f g = absurd (f refl)
other word.From a b c d e f g = absurd (g refl)
other w a b c d e f g = tt

pub plain_word : (s r : Tokens) (w : Keyword) → s ≡ token.Word w ∷ r → (w ≡ word.Pass → ⊥) → (w ≡ word.Break → ⊥) → (w ≡ word.Continue → ⊥) → (w ≡ word.Return → ⊥) → (w ≡ word.Raise → ⊥) → (w ≡ word.Import → ⊥) → (w ≡ word.From → ⊥) → IsPlain s
plain_word s r w h a b c d e f g = subst IsPlain (sym h) (other w a b c d e f g)

pub plain_no_name : (s : Tokens) → HasNoWord s → ((n : Text) (r : Tokens) → s ≡ token.Name n ∷ r → ⊥) → IsPlain s
plain_no_name (token.Word w ∷ r) h k = absurd (h w r refl)
plain_no_name (token.Name n ∷ r) h k = absurd (k n r refl)
plain_no_name s h k = tt

plain_behind : (n : Text) (m : Tokens) → ((r : Tokens) → m ≡ t.colon ∷ r → ⊥) → ((a : Text) (r : Tokens) → m ≡ t.dot ∷ token.Name a ∷ t.colon ∷ r → ⊥) → IsPlain (token.Name n ∷ m)
plain_behind n (token.Mark mark.Colon ∷ r) h k = absurd (h r refl)
plain_behind n (token.Mark mark.Dot ∷ token.Name a ∷ token.Mark mark.Colon ∷ r) h k = absurd (k a r refl)
plain_behind n m h k = tt

pub plain_name : (s m : Tokens) (n : Text) → s ≡ token.Name n ∷ m → ((r : Tokens) → m ≡ t.colon ∷ r → ⊥) → ((a : Text) (r : Tokens) → m ≡ t.dot ∷ token.Name a ∷ t.colon ∷ r → ⊥) → IsPlain s
plain_name s m n h k j = subst IsPlain (sym h) (plain_behind n m k j)

-- ---- by what is at the front

pub colon_ok : (s m r : Tokens) (n : Text) (o : Result _ AllocError) → s ≡ token.Name n ∷ m → m ≡ t.colon ∷ r → IfOk o (StatementAt (token.Name n ∷ t.colon ∷ r)) → IfOk o (StatementAt s)
colon_ok s m r n (Ok o) h k d = subst (λ z. StatementAt z o) (sym (h ∙ ap (λ z. token.Name n ∷ z) k)) d
colon_ok s m r n (Err f) h k d = tt

pub attribute_ok : (s m r : Tokens) (n a : Text) (o : Result _ AllocError) → s ≡ token.Name n ∷ m → m ≡ t.dot ∷ token.Name a ∷ t.colon ∷ r → IfOk o (StatementAt (token.Name n ∷ t.dot ∷ token.Name a ∷ t.colon ∷ r)) → IfOk o (StatementAt s)
attribute_ok s m r n a (Ok o) h k d = subst (λ z. StatementAt z o) (sym (h ∙ ap (λ z. token.Name n ∷ z) k)) d
attribute_ok s m r n a (Err f) h k d = tt

pub begun_ok : (s : Tokens) (o : Option Phrase) (phrase : Phrase) (k : Result _ AllocError) → o ≡ Some phrase → AtFront L s o → IsPlain s → IfOk k (λ found. StatementBehind phrase phrase.rest.now found) → IfOk k (StatementAt s)
begun_ok s o phrase (Ok k) h front plain f =
    let there : AtFront L s (Some phrase) = subst (AtFront L s) h front in
    f s there.0 plain there.1
begun_ok s o phrase (Err e) h front plain f = tt

pub no_front : (s : Tokens) (o : Option Phrase) → o ≡ None → AtFront L s o → IsPlain s → (k : Kind) → Simple s k → ⊥
no_front s o h front plain = no_phrase s plain (subst (AtFront L s) h front)
