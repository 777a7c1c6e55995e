-- The heads of blocks, as they are read.
use Rattle.std.proofs.Common.{◌≡◌, List, ◌∷◌, Option, Some, None, Result, Ok, Err, IfOk, refl, sym, ap, subst, ◌∙◌, arith}
use Rattle.std.specs.declared.alloc.AllocError.{AllocError}
use Rattle.py_tree.specs.Syntax.{Text, Expression, Param, Target}
use Rattle.py_tree.specs.Nesting.{nesting}
use Rattle.py_tree.specs.Joined.{expression_of, maybe_of, target_of}
use Rattle.py_tree.specs.declared.expression.Expr.{Expr}
use Rattle.py_tree.specs.declared.expression.Param as tree_param
use Rattle.py_tree.specs.declared.expression.Target as tree_target
use Rattle.py_lexer.specs.declared.token.Token.TheVariants as token
use Rattle.py_lexer.specs.declared.token.Keyword.{Keyword}
use Rattle.py_lexer.specs.declared.token.Keyword.TheVariants as word
use Rattle.py_expr.specs.declared.form.Head as tree
use Rattle.py_expr.specs.declared.form.Head.TheVariants as made
use Rattle.py_expr.specs.declared.found.Found as reading
use Rattle.py_expr.specs.declared.head.Tested.{Tested}
use Rattle.py_expr.specs.declared.head.Tested.TheVariants as tested
use Rattle.py_phrases.specs.declared.phrase.Built.{Built}
use Rattle.py_phrases.specs.declared.phrase.Built.TheVariants.{Shallow}
use Rattle.py_phrases.specs.Tokens as t
use Rattle.py_phrases.specs.Grammar.{Tokens, E, Spells}
use Rattle.py_phrases.specs.Ends.{IsEnd}
use Rattle.py_expr.specs.LineEnds.{Anything}
use Rattle.py_expr.specs.Lines as l
use Rattle.py_expr.specs.Lines.{HeadAt, Base}
use Rattle.py_expr.specs.Depth.{maybe_nesting, params_nesting, head_nesting}
use Rattle.py_expr.specs.Forms as form
use Rattle.py_expr.specs.Forms.{Head, head_of, params_of}
use Rattle.py_expr.specs.Readings.{IsBuilt, IsFound, FoundAt, BeforeColon, BeforeIn, ListBeforeColon, IsNext, both_built}
use Rattle.py_expr.specs.Signatures.{Signature}
use Rattle.py_expr.specs.Heads.{HeadBehind, FoundBehind, DefBehind, IsBare, MakesHead, MakesFor, MakesDef, MakesClass, loop_of, loop_nesting, test_word, test_form}
use Rattle.py_expr.proofs.OneForm.{OneFront, behind, begins, one_head}
use Rattle.py_phrases.proofs.Builds.{one_front}
use Rattle.py_expr.proofs.Wholes.{both_are}
use Rattle.py_phrases.specs.Targets.{target_nesting}

one : OneFront
one k s r q d e y h z h' = let x = one_front y h z h' in record { thing = x.tree; rest = x.rest }

-- a head that stands there is the only one
stands_found : (w : Keyword) (s r : Tokens) (h : Head) (b : Built tree.Head) → HeadBehind w s r h → IsBuilt head_of head_nesting h b → IsFound (HeadBehind w) Anything head_of head_nesting s b r
stands_found w s r h b d built = record { thing = h; stands = d; only = λ q z e i. one_head one (token.Word w ∷ s) r q h z d e; is_built = built }

-- ---- its word

pub behind_word : (s m : Tokens) (w : Keyword) (o : Option (reading.Found tree.Head)) → s ≡ token.Word w ∷ m → FoundBehind w m o → FoundAt HeadAt Anything head_of head_nesting s o
behind_word s m w o h f = subst (λ y. FoundAt HeadAt Anything head_of head_nesting y o) (sym h) (same o f) where
  same : (o : Option (reading.Found tree.Head)) → FoundBehind w m o → FoundAt HeadAt Anything head_of head_nesting (token.Word w ∷ m) o
  same None f = f
  same (Some found) f = record { thing = f.thing; stands = f.stands; only = f.only; is_built = f.is_built }

pub no_word : (s : Tokens) → ((w : Keyword) (r : Tokens) → s ≡ token.Word w ∷ r → ⊥) → (q : Tokens) (z : Head) → HeadAt s q z → Anything q → ⊥
no_word _ none q _ (l.an_if {s = s} d) i = none word.If s refl
no_word _ none q _ (l.an_elif {s = s} d) i = none word.Elif s refl
no_word _ none q _ l.an_else i = none word.Else (t.colon ∷ q) refl
no_word _ none q _ (l.a_while {s = s} d) i = none word.While s refl
no_word _ none q _ (l.a_for {s = s} n d) i = none word.For s refl
no_word _ none q _ l.a_try i = none word.Try (t.colon ∷ q) refl
no_word _ none q _ l.an_except i = none word.Except (t.colon ∷ q) refl
no_word _ none q _ (l.an_except_of {s = s} d) i = none word.Except s refl
no_word _ none q _ (l.an_except_as {s = s} d) i = none word.Except s refl
no_word _ none q _ (l.a_def {s = s} {n = n} u h v) i = none word.Def (token.Name n ∷ t.left_paren ∷ s) refl
no_word _ none q _ (l.a_class {s = s} {n = n} u) i = none word.Class (token.Name n ∷ s) refl

-- no word of a head
pub record IsOther (w : Keyword) : Type 0 where
  pub no_if : w ≡ word.If → ⊥
  pub no_elif : w ≡ word.Elif → ⊥
  pub no_else : w ≡ word.Else → ⊥
  pub no_while : w ≡ word.While → ⊥
  pub no_for : w ≡ word.For → ⊥
  pub no_try : w ≡ word.Try → ⊥
  pub no_except : w ≡ word.Except → ⊥
  pub no_def : w ≡ word.Def → ⊥
  pub no_class : w ≡ word.Class → ⊥

pub other_word : (w : Keyword) (s : Tokens) → IsOther w → (q : Tokens) (z : Head) → HeadBehind w s q z → Anything q → ⊥
other_word _ s other q _ (l.an_if d) i = other.no_if refl
other_word _ s other q _ (l.an_elif d) i = other.no_elif refl
other_word _ s other q _ l.an_else i = other.no_else refl
other_word _ s other q _ (l.a_while d) i = other.no_while refl
other_word _ s other q _ (l.a_for n d) i = other.no_for refl
other_word _ s other q _ l.a_try i = other.no_try refl
other_word _ s other q _ l.an_except i = other.no_except refl
other_word _ s other q _ (l.an_except_of d) i = other.no_except refl
other_word _ s other q _ (l.an_except_as d) i = other.no_except refl
other_word _ s other q _ (l.a_def u h v) i = other.no_def refl
other_word _ s other q _ (l.a_class u) i = other.no_class refl

-- ---- heads without parts

pub else_at : (s : Tokens) (o : Option (reading.Found tree.Head)) → IsBare made.Else s o → FoundBehind word.Else s o
else_at s None none = λ q z d i. at s none q z d where
  at : (s : Tokens) → ((r : Tokens) → s ≡ t.colon ∷ r → ⊥) → (q : Tokens) (z : Head) → HeadBehind word.Else s q z → ⊥
  at _ none q _ l.an_else = none q refl
else_at s (Some found) h =
    let d : HeadBehind word.Else s found.rest.now form.Else = subst (λ y. HeadBehind word.Else y found.rest.now form.Else) (sym h.1) l.an_else in
    stands_found word.Else s found.rest.now form.Else found.built d (subst (λ b. IsBuilt head_of head_nesting form.Else b) (sym h.0) (omega arith, refl))

pub try_at : (s : Tokens) (o : Option (reading.Found tree.Head)) → IsBare made.Try s o → FoundBehind word.Try s o
try_at s None none = λ q z d i. at s none q z d where
  at : (s : Tokens) → ((r : Tokens) → s ≡ t.colon ∷ r → ⊥) → (q : Tokens) (z : Head) → HeadBehind word.Try s q z → ⊥
  at _ none q _ l.a_try = none q refl
try_at s (Some found) h =
    let d : HeadBehind word.Try s found.rest.now form.Try = subst (λ y. HeadBehind word.Try y found.rest.now form.Try) (sym h.1) l.a_try in
    stands_found word.Try s found.rest.now form.Try found.built d (subst (λ b. IsBuilt head_of head_nesting form.Try b) (sym h.0) (omega arith, refl))

-- ---- heads with a test

test_stands : (head : Tested) (s r : Tokens) (e : Expression) → BeforeColon s r e → HeadBehind (test_word head) s r (test_form head e)
test_stands tested.If s r e d = l.an_if d
test_stands tested.Elif s r e d = l.an_elif d
test_stands tested.While s r e d = l.a_while d

pub test_found : (head : Tested) (s r : Tokens) (test : Built Expr) (b : Built tree.Head) → IsFound BeforeColon Anything expression_of nesting s test r → MakesHead (test_form head) test b
    → IsFound (HeadBehind (test_word head)) Anything head_of head_nesting s b r
test_found head s r test b f makes = stands_found (test_word head) s r (test_form head f.thing) b (test_stands head s r f.thing f.stands) (makes f.thing f.is_built)

pub no_test : (head : Tested) (s : Tokens) → ((q : Tokens) (e : Expression) → BeforeColon s q e → Anything q → ⊥) → (q : Tokens) (z : Head) → HeadBehind (test_word head) s q z → Anything q → ⊥
no_test tested.If s none q _ (l.an_if {e = e} d) i = none q e d tt
no_test tested.Elif s none q _ (l.an_elif {e = e} d) i = none q e d tt
no_test tested.While s none q _ (l.a_while {e = e} d) i = none q e d tt

-- ---- for

-- of the parts that were read
module _ (s m : Tokens) (target : Built tree_target.Target) (f : IsFound BeforeIn Anything target_of target_nesting s target m) where
  for_found : (r : Tokens) (items : Built Expr) (parts : Built (tree_target.Target × Expr)) (b : Built tree.Head) → IsFound ListBeforeColon Anything expression_of nesting m items r → parts ≡ both_built target items → MakesFor parts b
      → IsFound (HeadBehind word.For) Anything head_of head_nesting s b r
  for_found r items parts b g is makes =
      let built : IsBuilt loop_of loop_nesting (f.thing, g.thing) parts
      = subst (λ z. IsBuilt loop_of loop_nesting (f.thing, g.thing) z) (sym is) (both_are target_of target_nesting expression_of nesting f.thing g.thing target items f.is_built g.is_built) in
      stands_found word.For s r (form.For f.thing g.thing) b (l.a_for f.stands g.stands) (makes f.thing g.thing built)

  no_items : ((q : Tokens) (e : Expression) → ListBeforeColon m q e → Anything q → ⊥) → (q : Tokens) (z : Head) → HeadBehind word.For s q z → Anything q → ⊥
  no_items none q _ (l.a_for {m = n} {g = g} {e = e} u d) i = none q e (subst (λ y. ListBeforeColon y q e) (sym (f.only n g u tt).rest) d) tt

  pub loop_found : (items : Result (Option (reading.Found Expr)) AllocError) (parts : reading.Found (tree_target.Target × Expr)) (b : Built tree.Head) → IfOk items (FoundAt ListBeforeColon Anything expression_of nesting m) → IsNext target items (Some parts)
      → MakesFor parts.built b → IsFound (HeadBehind word.For) Anything head_of head_nesting s b parts.rest.now
  loop_found (Err error) parts b h is makes = absurd is
  loop_found (Ok None) parts b h is makes = absurd cc
  loop_found (Ok (Some items)) parts b h is makes =
      subst (λ r. IsFound (HeadBehind word.For) Anything head_of head_nesting s b r) (sym is.1) (for_found items.rest.now items.built parts.built b h is.0 makes)

  pub no_loop : (items : Result (Option (reading.Found Expr)) AllocError) → IfOk items (FoundAt ListBeforeColon Anything expression_of nesting m) → IsNext target items None → (q : Tokens) (z : Head) → HeadBehind word.For s q z → Anything q → ⊥
  no_loop (Err error) h is = absurd is
  no_loop (Ok None) h is = no_items h
  no_loop (Ok (Some items)) h is = absurd is

pub no_names : (s : Tokens) → ((q : Tokens) (g : Target) → BeforeIn s q g → Anything q → ⊥) → (q : Tokens) (z : Head) → HeadBehind word.For s q z → Anything q → ⊥
no_names s none q _ (l.a_for {m = m} {g = g} n d) i = none m g n tt

-- ---- except

pub except_alone : (s r : Tokens) → s ≡ t.colon ∷ r → IsFound (HeadBehind word.Except) Anything head_of head_nesting s (Shallow (made.Except None None)) r
except_alone s r h =
    let d : HeadBehind word.Except s r (form.Except None None) = subst (λ y. HeadBehind word.Except y r (form.Except None None)) (sym h) l.an_except in
    stands_found word.Except s r (form.Except None None) (Shallow (made.Except None None)) d (omega arith, refl)

pub no_matches : (s : Tokens) → ((m : Tokens) → s ≡ t.colon ∷ m → ⊥) → ((q : Tokens) (e : Expression) → Spells E s q e → IsEnd E q → ⊥) → (q : Tokens) (z : Head) → HeadBehind word.Except s q z → Anything q → ⊥
no_matches _ colon none q _ l.an_except i = colon q refl
no_matches s colon none q _ (l.an_except_of {e = e} d) i = none (t.colon ∷ q) e d tt
no_matches s colon none q _ (l.an_except_as {e = e} {n = n} d) i = none (t.as_ ∷ token.Name n ∷ t.colon ∷ q) e d tt

pub except_found : (s m r : Tokens) (matches : Built Expr) (b : Built tree.Head) → IsFound (Spells E) (IsEnd E) expression_of nesting s matches m → m ≡ t.colon ∷ r → MakesHead (λ e. form.Except (Some e) None) matches b
    → IsFound (HeadBehind word.Except) Anything head_of head_nesting s b r
except_found s m r matches b f h makes =
    stands_found word.Except s r (form.Except (Some f.thing) None) b (l.an_except_of (subst (λ y. Spells E s y f.thing) h f.stands)) (makes f.thing f.is_built)

pub except_as_found : (s m r : Tokens) (name copy : Text) (matches : Built Expr) (b : Built tree.Head) → IsFound (Spells E) (IsEnd E) expression_of nesting s matches m → m ≡ t.as_ ∷ token.Name name ∷ t.colon ∷ r → copy ≡ name
    → MakesHead (λ e. form.Except (Some e) (Some copy)) matches b → IsFound (HeadBehind word.Except) Anything head_of head_nesting s b r
except_as_found s m r name copy matches b f h same makes =
    let here : m ≡ t.as_ ∷ token.Name copy ∷ t.colon ∷ r = h ∙ ap (λ n. t.as_ ∷ token.Name n ∷ t.colon ∷ r) (sym same) in
    stands_found word.Except s r (form.Except (Some f.thing) (Some copy)) b (l.an_except_as (subst (λ y. Spells E s y f.thing) here f.stands)) (makes f.thing f.is_built)

pub no_end_of_except : (s m : Tokens) (matches : Built Expr) → IsFound (Spells E) (IsEnd E) expression_of nesting s matches m → ((r : Tokens) → m ≡ t.colon ∷ r → ⊥) → ((n : Text) (r : Tokens) → m ≡ t.as_ ∷ token.Name n ∷ t.colon ∷ r → ⊥)
    → (q : Tokens) (z : Head) → HeadBehind word.Except s q z → Anything q → ⊥
no_end_of_except _ m matches f colon named q _ l.an_except i = absurd (begins f.stands)
no_end_of_except s m matches f colon named q _ (l.an_except_of {e = e} d) i = colon q (f.only (t.colon ∷ q) e d tt).rest
no_end_of_except s m matches f colon named q _ (l.an_except_as {e = e} {n = n} d) i = named n q (f.only (t.as_ ∷ token.Name n ∷ t.colon ∷ q) e d tt).rest

-- ---- def

pub behind_def : (s m r : Tokens) (n : Text) (o : Option (reading.Found tree.Head)) → s ≡ token.Name n ∷ m → m ≡ t.left_paren ∷ r → FoundAt (DefBehind n) Anything head_of head_nesting r o → FoundBehind word.Def s o
behind_def s m r n o h k f = subst (λ y. FoundBehind word.Def y o) (sym (h ∙ ap (λ y. token.Name n ∷ y) k)) (same o f) where
  same : (o : Option (reading.Found tree.Head)) → FoundAt (DefBehind n) Anything head_of head_nesting r o → FoundBehind word.Def (token.Name n ∷ t.left_paren ∷ r) o
  same None f = f
  same (Some found) f = record { thing = f.thing; stands = f.stands; only = f.only; is_built = f.is_built }

pub no_def_name : (s : Tokens) → ((n : Text) (r : Tokens) → s ≡ token.Name n ∷ r → ⊥) → (q : Tokens) (z : Head) → HeadBehind word.Def s q z → Anything q → ⊥
no_def_name _ none q _ (l.a_def {s = s} {n = n} u h v) i = none n (t.left_paren ∷ s) refl

pub no_def_paren : (s m : Tokens) (n : Text) → s ≡ token.Name n ∷ m → ((r : Tokens) → m ≡ t.left_paren ∷ r → ⊥) → (q : Tokens) (z : Head) → HeadBehind word.Def s q z → Anything q → ⊥
no_def_paren s m n h none q z d i = at s q z d h where
  at : (y q : Tokens) (z : Head) → HeadBehind word.Def y q z → y ≡ token.Name n ∷ m → ⊥
  at _ q _ (l.a_def {s = s} u h v) e = none s (ap behind (sym e))

pub def_found : (s m r : Tokens) (n : Text) (params : Built (List tree_param.Param)) (kind : Built (Option Expr)) (b : Built tree.Head) → IsFound Signature Anything params_of params_nesting s params m
    → IsFound l.Result Anything maybe_of maybe_nesting m kind r → MakesDef n params kind b → IsFound (DefBehind n) Anything head_of head_nesting s b r
def_found s m r n params kind b f g makes =
    let d : DefBehind n s r (form.Def n f.thing g.thing) = l.a_def f.stands.0 f.stands.1 g.stands in
    record {
      thing = form.Def n f.thing g.thing;
      stands = d;
      only = λ q z e i. one_head one (t.def_ ∷ token.Name n ∷ t.left_paren ∷ s) r q (form.Def n f.thing g.thing) z d e;
      is_built = makes f.thing g.thing f.is_built g.is_built;
    }

pub no_params : (n : Text) (s : Tokens) → ((q : Tokens) (ps : List Param) → Signature s q ps → Anything q → ⊥) → (q : Tokens) (z : Head) → DefBehind n s q z → Anything q → ⊥
no_params n s none q _ (l.a_def {m = m} {ps = ps} u h v) i = none m ps (u, h) tt

pub no_result_behind : (n : Text) (s m : Tokens) (params : Built (List tree_param.Param)) → IsFound Signature Anything params_of params_nesting s params m → ((q : Tokens) (k : Option Expression) → l.Result m q k → Anything q → ⊥)
    → (q : Tokens) (z : Head) → DefBehind n s q z → Anything q → ⊥
no_result_behind n s m params f none q _ (l.a_def {m = x} {ps = ps} {k = k} u h v) i = none q k (subst (λ y. l.Result y q k) (sym (f.only x ps (u, h) tt).rest) v) tt

-- ---- class

pub class_found : (s m r : Tokens) (n : Text) (base : Built (Option Expr)) (b : Built tree.Head) → s ≡ token.Name n ∷ m → IsFound Base Anything maybe_of maybe_nesting m base r → MakesClass n base b
    → IsFound (HeadBehind word.Class) Anything head_of head_nesting s b r
class_found s m r n base b h f makes =
    let d : HeadBehind word.Class s r (form.Class n f.thing) = subst (λ y. HeadBehind word.Class y r (form.Class n f.thing)) (sym h) (l.a_class f.stands) in
    stands_found word.Class s r (form.Class n f.thing) b d (makes f.thing f.is_built)

pub no_class_name : (s : Tokens) → ((n : Text) (r : Tokens) → s ≡ token.Name n ∷ r → ⊥) → (q : Tokens) (z : Head) → HeadBehind word.Class s q z → Anything q → ⊥
no_class_name _ none q _ (l.a_class {s = s} {n = n} u) i = none n s refl

pub no_base_behind : (s m : Tokens) (n : Text) → s ≡ token.Name n ∷ m → ((q : Tokens) (b : Option Expression) → Base m q b → Anything q → ⊥) → (q : Tokens) (z : Head) → HeadBehind word.Class s q z → Anything q → ⊥
no_base_behind s m n h none q z d i = at s q z d h where
  at : (y q : Tokens) (z : Head) → HeadBehind word.Class y q z → y ≡ token.Name n ∷ m → ⊥
  at _ q _ (l.a_class {s = s} {b = b} u) e = none q b (subst (λ y. Base y q b) (ap behind e) u) tt
