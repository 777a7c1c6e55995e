-- What is read token by token is spelled.
use Rattle.std.proofs.Common.{◌≡◌, ℕ, zero, suc, ◌+◌, ◌≤◌, Bool, true, false, length, List, [], ◌∷◌, ◌++◌, Option, Some, None, refl, sym, ap, subst, ◌∙◌, arith}
use Rattle.std.proofs.lemmas.Bool.{leb-true}
use Rattle.std.specs.Prelude.{nat_le, cond}
use Rattle.py_tree.specs.Syntax as x
use Rattle.py_tree.specs.Syntax.{Text, Expression, Expressions, Pairs, Keywords}
use Rattle.py_tree.specs.declared.operator.BinaryOp.TheVariants as binary
use Rattle.py_tree.specs.declared.operator.CompareOp.{CompareOp}
use Rattle.py_tree.specs.declared.operator.CompareOp.TheVariants as compare
use Rattle.py_tree.specs.declared.operator.Const.{Const}
use Rattle.py_tree.specs.declared.operator.Const.TheVariants as constant
use Rattle.py_lexer.specs.declared.token.Token.{Token}
use Rattle.py_lexer.specs.declared.token.Token.TheVariants as token
use Rattle.py_lexer.specs.declared.token.Keyword.TheVariants as word
use Rattle.py_lexer.specs.declared.token.Mark.TheVariants as mark
use Rattle.py_phrases.specs.Tokens as t
use Rattle.py_phrases.specs.Grammar as g
use Rattle.py_phrases.specs.Grammar.{Tokens, Level, P, U, M, S, C, N, A, O, E, L, Spells, Joined, Items, Entries, Arguments, KeywordsAt, distinct}
use Rattle.py_phrases.specs.Machine as m
use Rattle.py_phrases.specs.Machine.{Frame, Frames, Step, Steps, Mode, State, Done, Read, state, done, wants, wants_behind, makes, made, close, after, negation, operand, operand_or_end, no_repeats, called, call, paren_after_comma, bracket_after_comma, brace_after_comma, left_of, stands_at, push, tight, loose, compared_by, other, comma, listed, paren, bracket, brace, colon, in_call, named, equal, joined, follow, behind, dotted, not_in, constant_of, is_constant, is, step, ended, ended_at, ended_after_comma, finish, read_to, with_rest, ends, stop, go_on, run, bottom, read}
use Rattle.py_phrases.specs.Emitted.{count, count_pairs, count_keywords, emit, emit_text, emit_items, emit_entries, emit_arguments, emit_keywords}
use Rattle.py_phrases.proofs.Complete.{rank, names_of, distinct_is, names_length}

-- the tokens from the first on, and the level of the whole
pub record Start : Type 0 where
  pub level : Level
  pub tokens : Tokens

-- ---- what the lists so far make of those that follow

-- a tuple of n items and of those that follow
abbrev pub Tupled : ℕ → Tokens → Tokens → Steps → Steps → Type 0
Tupled n s r base out = (all : Expressions) × (d : Spells L s r (x.Tuple all)) × (emit d base ≡ m.MakeTuple n ∷ out)

-- n items, each with its comma, stand between s and q; base are the steps before them
abbrev pub Before : ℕ → Tokens → Tokens → Steps → Steps → Type 0
Before zero s q base o = (s ≡ q) × (o ≡ base)
Before (suc n) s q base o = (r : Tokens) (es : Expressions) (i : Items q r es) → Tupled (suc n + count es) s r base (emit_items i o)

abbrev pub BeforeItems : ℕ → Tokens → Tokens → Steps → Steps → Type 0
BeforeItems n s q base o = (r : Tokens) (es : Expressions) (i : Items q r es) → (all : Expressions) × (j : Items s r all) × (emit_items j base ≡ emit_items i o) × (count all ≡ n + count es)

abbrev pub BeforePairs : ℕ → Tokens → Tokens → Steps → Steps → Type 0
BeforePairs n s q base o = (r : Tokens) (ps : Pairs) (i : Entries q r ps) → (all : Pairs) × (j : Entries s r all) × (emit_entries j base ≡ emit_entries i o) × (count_pairs all ≡ n + count_pairs ps)

abbrev pub BeforeArguments : ℕ → Tokens → Tokens → Steps → Steps → Type 0
BeforeArguments n s q base o = (r : Tokens) (es : Expressions) (ks : Keywords) (i : Arguments q r es ks) → (all : Expressions) × (j : Arguments s r all ks) × (emit_arguments j base ≡ emit_arguments i o) × (count all ≡ n + count es)

-- an operand from s to r, and what was open before it
pub record Left (k : Level) (fits : ℕ) (opened : Steps → Tokens → Type 0) (fs : Frames) (o : Steps) (r : Tokens) : Type 0 where
  pub from : Tokens
  pub tree : Expression
  pub before : Steps
  pub spells : Spells k from r tree
  pub steps_are : o ≡ emit spells before
  pub below : opened before from
  pub fit : fits ≤ wants fs

pub data Comparing : Tokens → Tokens → CompareOp → Type 0 where
  one_token : {r : Tokens} {c : Token} {op : CompareOp} → g.Comparison c op → Comparing (c ∷ r) r op
  two_tokens : {r : Tokens} → Comparing (t.not_ ∷ t.in_ ∷ r) r compare.NotIn

abbrev pub InBraces : ℕ → (Steps → Tokens → Type 0) → Steps → Tokens → Type 0
InBraces n opened o q = (s : Tokens) × (base : Steps) × BeforePairs n s q base o × opened base (t.left_brace ∷ s)

abbrev pub InKeyword : Text → (Steps → Tokens → Type 0) → Steps → Tokens → Type 0
InKeyword name opened o q = (base : Steps) × (o ≡ m.PutName name ∷ base) × opened base (token.Name name ∷ t.equal ∷ q)

-- the frames and steps are those of the tokens from s0 up to q
abbrev pub Opened : Start → Frames → Steps → Tokens → Type 0
Opened s0 [] o q = ⊥
Opened s0 (m.Line n ∷ fs) o q = (s0.level ≡ L) × (fs ≡ []) × Before n s0.tokens q [] o
Opened s0 (m.Lone ∷ fs) o q = (s0.level ≡ E) × (fs ≡ []) × (s0.tokens ≡ q) × (o ≡ [])
Opened s0 (m.Group n ∷ fs) o q = (s : Tokens) × (base : Steps) × Before n s q base o × Opened s0 fs base (t.left_paren ∷ s)
Opened s0 (m.Index n ∷ fs) o q = (s : Tokens) × (base : Steps) × Before n s q base o × Left P 0 (Opened s0 fs) fs base (t.left_bracket ∷ s)
Opened s0 (m.Listed n ∷ fs) o q = (s : Tokens) × (base : Steps) × BeforeItems n s q base o × Opened s0 fs base (t.left_bracket ∷ s)
Opened s0 (m.Entry n ∷ fs) o q = InBraces n (Opened s0 fs) o q
Opened s0 (m.Value n ∷ fs) o q = Left E 0 (InBraces n (Opened s0 fs)) fs o (t.colon ∷ q)
Opened s0 (m.Call n ∷ fs) o q = (s : Tokens) × (base : Steps) × BeforeArguments n s q base o × Left P 0 (Opened s0 fs) fs base (t.left_paren ∷ s)
Opened s0 (m.Key name ∷ fs) o q = InKeyword name (Opened s0 fs) o q
Opened s0 (m.Named name ∷ fs) o q = Left E 0 (InKeyword name (Opened s0 fs)) fs o (t.comma ∷ q)
Opened s0 (m.Sign op ∷ fs) o q = (c : Token) × g.Sign c op × (1 ≤ wants fs) × Opened s0 fs o (c ∷ q)
Opened s0 (m.Product op ∷ fs) o q = (c : Token) × g.Product c op × Left M 2 (Opened s0 fs) fs o (c ∷ q)
Opened s0 (m.Sum op ∷ fs) o q = (c : Token) × g.Sum c op × Left S 3 (Opened s0 fs) fs o (c ∷ q)
Opened s0 (m.Compare op ∷ fs) o q = (q' : Tokens) × Comparing q' q op × Left S 4 (Opened s0 fs) fs o q'
Opened s0 (m.Negation ∷ fs) o q = (5 ≤ wants fs) × Opened s0 fs o (t.not_ ∷ q)
Opened s0 (m.And ∷ fs) o q = Left A 6 (Opened s0 fs) fs o (t.and_ ∷ q)
Opened s0 (m.Or ∷ fs) o q = Left O 7 (Opened s0 fs) fs o (t.or_ ∷ q)
Opened s0 (m.Test ∷ fs) o q = Left O 8 (Opened s0 fs) fs o (t.if_ ∷ q)
Opened s0 (m.Other ∷ fs) o q = Left O 0 (λ b p. Left O 8 (Opened s0 fs) fs b (t.if_ ∷ p)) fs o (t.else_ ∷ q)

-- a phrase of level k has been read behind the frames
abbrev pub Phrase : Level → Start → Tokens → Frames → Steps → Type 0
Phrase k s0 r fs o = Left k 0 (Opened s0 fs) fs o r

pub fitting : (k : Level) (fits : ℕ) (s0 : Start) (r : Tokens) (fs : Frames) (o : Steps) → Phrase k s0 r fs o → fits ≤ wants fs → Left k fits (Opened s0 fs) fs o r
fitting k fits s0 r fs o p h = record { from = p.from; tree = p.tree; before = p.before; spells = p.spells; steps_are = p.steps_are; below = p.below; fit = h }

weaken : (j k : Level) (up : (s r : Tokens) (e : Expression) → Spells j s r e → Spells k s r e) → ((s r : Tokens) (e : Expression) (d : Spells j s r e) (o : Steps) → emit (up s r e d) o ≡ emit d o)
    → (s0 : Start) (r : Tokens) (fs : Frames) (o : Steps) → Phrase j s0 r fs o → Phrase k s0 r fs o
weaken j k up same s0 r fs o p = record {
  from = p.from;
  tree = p.tree;
  before = p.before;
  spells = up p.from r p.tree p.spells;
  steps_are = p.steps_are ∙ sym (same p.from r p.tree p.spells p.before);
  below = p.below;
  fit = p.fit;
}

module _ (s0 : Start) (r : Tokens) (fs : Frames) (o : Steps) where
  as_U : (j : Level) → rank j ≤ 1 → Phrase j s0 r fs o → Phrase U s0 r fs o
  as_U U h p = p
  as_U P h p = weaken P U (λ s r e d. g.a_primary d) (λ s r e d o. refl) s0 r fs o p
  as_U _ h p = absurd (omega arith)

  as_M : (j : Level) → rank j ≤ 2 → Phrase j s0 r fs o → Phrase M s0 r fs o
  as_M M h p = p
  as_M j h p = weaken U M (λ s r e d. g.a_factor d) (λ s r e d o. refl) s0 r fs o (as_U j (omega (arith, h)) p)

  as_S : (j : Level) → rank j ≤ 3 → Phrase j s0 r fs o → Phrase S s0 r fs o
  as_S S h p = p
  as_S j h p = weaken M S (λ s r e d. g.a_term d) (λ s r e d o. refl) s0 r fs o (as_M j (omega (arith, h)) p)

  as_C : (j : Level) → rank j ≤ 4 → Phrase j s0 r fs o → Phrase C s0 r fs o
  as_C C h p = p
  as_C j h p = weaken S C (λ s r e d. g.uncompared d) (λ s r e d o. refl) s0 r fs o (as_S j (omega (arith, h)) p)

  as_N : (j : Level) → rank j ≤ 5 → Phrase j s0 r fs o → Phrase N s0 r fs o
  as_N N h p = p
  as_N j h p = weaken C N (λ s r e d. g.affirmed d) (λ s r e d o. refl) s0 r fs o (as_C j (omega (arith, h)) p)

  as_A : (j : Level) → rank j ≤ 6 → Phrase j s0 r fs o → Phrase A s0 r fs o
  as_A A h p = p
  as_A j h p = weaken N A (λ s r e d. g.a_conjunct d) (λ s r e d o. refl) s0 r fs o (as_N j (omega (arith, h)) p)

  as_O : (j : Level) → rank j ≤ 7 → Phrase j s0 r fs o → Phrase O s0 r fs o
  as_O O h p = p
  as_O j h p = weaken A O (λ s r e d. g.a_disjunct d) (λ s r e d o. refl) s0 r fs o (as_A j (omega (arith, h)) p)

  pub as_E : (j : Level) → rank j ≤ 8 → Phrase j s0 r fs o → Phrase E s0 r fs o
  as_E E h p = p
  as_E j h p = weaken O E (λ s r e d. g.unconditional d) (λ s r e d o. refl) s0 r fs o (as_O j (omega (arith, h)) p)

-- ---- closing

record Popped (makes_ : ℕ) (s0 : Start) (r : Tokens) (fs : Frames) (o : Steps) : Type 0 where
  level : Level
  phrase : Phrase level s0 r fs o
  level_is : rank level ≡ makes_
  fits : rank level ≤ wants fs

compared_left : (s0 : Start) (r : Tokens) (fs : Frames) (o : Steps) (op : CompareOp) (q q' : Tokens) → Comparing q' q op → (before : Steps) → Left S 4 (Opened s0 fs) fs before q' → (e' : Expression) (d : Spells S q r e') → o ≡ emit d before
    → Popped 4 s0 r fs (m.MakeCompare op ∷ o)
compared_left s0 r fs o op q q' (one_token c) before l e' d e = record {
  level = C;
  phrase = record { from = l.from; tree = _; before = l.before; spells = g.a_comparison c l.spells d; steps_are = ap (λ (z : Steps). m.MakeCompare op ∷ z) (e ∙ ap (emit d) l.steps_are); below = l.below; fit = omega arith };
  level_is = refl;
  fits = l.fit;
}
compared_left s0 r fs o op q q' two_tokens before l e' d e = record {
  level = C;
  phrase = record { from = l.from; tree = _; before = l.before; spells = g.a_not_in l.spells d; steps_are = ap (λ (z : Steps). m.MakeCompare op ∷ z) (e ∙ ap (emit d) l.steps_are); below = l.below; fit = omega arith };
  level_is = refl;
  fits = l.fit;
}

pop_ok : (s0 : Start) (r : Tokens) (f : Frame) (fs : Frames) (o : Steps) (j : Level) → Phrase j s0 r (f ∷ fs) o → rank j ≤ wants_behind f → makes f ≤ 8 → Popped (makes f) s0 r fs (made f o)
pop_ok s0 r (m.Sign op) fs o j p' h i =
    let p = as_U s0 r (m.Sign op ∷ fs) o j h p' in
    record {
      level = U;
      phrase = record { from = p.below.0 ∷ p.from; tree = x.Unary op p.tree; before = p.before; spells = g.a_sign p.below.1 p.spells; steps_are = ap (λ (z : Steps). m.MakeUnary op ∷ z) p.steps_are; below = p.below.3; fit = omega arith };
      level_is = refl;
      fits = p.below.2;
    }
pop_ok s0 r (m.Product op) fs o j p' h i =
    let p = as_U s0 r (m.Product op ∷ fs) o j h p' in
    let l = p.below.2 in
    record {
      level = M;
      phrase = record { from = l.from; tree = x.Binary op l.tree p.tree; before = l.before; spells = g.a_product p.below.1 l.spells p.spells; steps_are = ap (λ (z : Steps). m.MakeBinary op ∷ z) (p.steps_are ∙ ap (emit p.spells) l.steps_are); below = l.below; fit = omega arith };
      level_is = refl;
      fits = l.fit;
    }
pop_ok s0 r (m.Sum op) fs o j p' h i =
    let p = as_M s0 r (m.Sum op ∷ fs) o j h p' in
    let l = p.below.2 in
    record {
      level = S;
      phrase = record { from = l.from; tree = x.Binary op l.tree p.tree; before = l.before; spells = g.a_sum p.below.1 l.spells p.spells; steps_are = ap (λ (z : Steps). m.MakeBinary op ∷ z) (p.steps_are ∙ ap (emit p.spells) l.steps_are); below = l.below; fit = omega arith };
      level_is = refl;
      fits = l.fit;
    }
pop_ok s0 r (m.Compare op) fs o j p' h i =
    let p = as_S s0 r (m.Compare op ∷ fs) o j h p' in
    compared_left s0 r fs o op p.from p.below.0 p.below.1 p.before p.below.2 p.tree p.spells p.steps_are
pop_ok s0 r m.Negation fs o j p' h i =
    let p = as_N s0 r (m.Negation ∷ fs) o j h p' in
    record {
      level = N;
      phrase = record { from = t.not_ ∷ p.from; tree = x.Not p.tree; before = p.before; spells = g.a_negation p.spells; steps_are = ap (λ (z : Steps). m.MakeNot ∷ z) p.steps_are; below = p.below.1; fit = omega arith };
      level_is = refl;
      fits = p.below.0;
    }
pop_ok s0 r m.And fs o j p' h i =
    let p = as_N s0 r (m.And ∷ fs) o j h p' in
    let l = p.below in
    record {
      level = A;
      phrase = record { from = l.from; tree = x.And l.tree p.tree; before = l.before; spells = g.a_conjunction l.spells p.spells; steps_are = ap (λ (z : Steps). m.MakeAnd ∷ z) (p.steps_are ∙ ap (emit p.spells) l.steps_are); below = l.below; fit = omega arith };
      level_is = refl;
      fits = l.fit;
    }
pop_ok s0 r m.Or fs o j p' h i =
    let p = as_A s0 r (m.Or ∷ fs) o j h p' in
    let l = p.below in
    record {
      level = O;
      phrase = record { from = l.from; tree = x.Or l.tree p.tree; before = l.before; spells = g.a_disjunction l.spells p.spells; steps_are = ap (λ (z : Steps). m.MakeOr ∷ z) (p.steps_are ∙ ap (emit p.spells) l.steps_are); below = l.below; fit = omega arith };
      level_is = refl;
      fits = l.fit;
    }
pop_ok s0 r m.Other fs o j p' h i =
    let p = as_E s0 r (m.Other ∷ fs) o j h p' in
    let l = p.below in
    let l' = l.below in
    record {
      level = E;
      phrase = record {
        from = l'.from;
        tree = x.Cond l.tree l'.tree p.tree;
        before = l'.before;
        spells = g.a_conditional l'.spells l.spells p.spells;
        steps_are = ap (λ (z : Steps). m.MakeCond ∷ z) (p.steps_are ∙ ap (emit p.spells) (l.steps_are ∙ ap (emit l.spells) l'.steps_are));
        below = l'.below;
        fit = omega arith;
      };
      level_is = refl;
      fits = l'.fit;
    }
pop_ok s0 r _ fs o j p h i = absurd (omega arith)

pub record Closed (k : ℕ) (s0 : Start) (r : Tokens) (d : Done) : Type 0 where
  pub level : Level
  pub phrase : Phrase level s0 r d.frames d.steps
  pub closed : rank level ≤ k

closed_or : (k : ℕ) (s0 : Start) (r : Tokens) (b : Bool) (top : ℕ) (d e : Done) → (b ≡ true → top ≤ k) → (top ≤ k → Closed k s0 r d) → Closed k s0 r e → Closed k s0 r (cond b d e)
closed_or k s0 r true top d e h yes_ no_ = yes_ (h refl)
closed_or k s0 r false top d e h yes_ no_ = no_

pub close_ok : (k : ℕ) → k ≤ 8 → (s0 : Start) (r : Tokens) (fs : Frames) (o : Steps) (j : Level) → Phrase j s0 r fs o → rank j ≤ k → rank j ≤ wants fs → Closed k s0 r (close k fs o)
close_ok k h s0 r [] o j p i q = absurd p.below
close_ok k h s0 r (f ∷ fs) o j p i q =
    closed_or k s0 r (nat_le (makes f) k) (makes f) (close k fs (made f o)) (done (f ∷ fs) o) (leb-true (makes f) k)
    (λ u. let y = pop_ok s0 r f fs o j p q (omega (arith, u, h)) in close_ok k h s0 r fs (made f o) y.level y.phrase (omega (arith, y.level_is, u)) y.fits)
    (record { level = j; phrase = p; closed = i })

wants_one : (f : Frame) → 1 ≤ wants_behind f
wants_one (m.Sign op) = omega arith
wants_one (m.Product op) = omega arith
wants_one (m.Sum op) = omega arith
wants_one (m.Compare op) = omega arith
wants_one m.Negation = omega arith
wants_one m.And = omega arith
wants_one m.Or = omega arith
wants_one m.Test = omega arith
wants_one _ = omega arith

pub wants_some : (s0 : Start) (fs : Frames) (o : Steps) (q : Tokens) → Opened s0 fs o q → 1 ≤ wants fs
wants_some s0 [] o q p = absurd p
wants_some s0 (f ∷ fs) o q p = wants_one f

-- ---- lists

add_item : (n : ℕ) (s q r : Tokens) (base o o' : Steps) (e : Expression) → Before n s q base o → (d : Spells E q (t.comma ∷ r) e) → o' ≡ emit d o → Before (suc n) s r base o'
add_item zero s q r base o o' e b d h = λ r' es i.
    let here : Tupled (1 + count es) q r' o (emit_items i o') = (x.more_expressions e es, g.a_tuple d i, ap (λ (z : Steps). m.MakeTuple (suc (count es)) ∷ emit_items i z) (sym h) ∙ ap (λ (k : ℕ). m.MakeTuple k ∷ emit_items i o') (omega arith)) in
    subst (λ (y : Tokens). Tupled (1 + count es) y r' base (emit_items i o')) (sym b.0) (subst (λ (z : Steps). Tupled (1 + count es) q r' z (emit_items i o')) b.1 here)
add_item (suc n) s q r base o o' e b d h = λ r' es i.
    let y = b r' (x.more_expressions e es) (g.next_item d i) in
    (y.0, y.1, y.2 ∙ ap (λ (k : ℕ). m.MakeTuple k ∷ emit_items i (emit d o)) (omega arith) ∙ ap (λ (z : Steps). m.MakeTuple (suc (suc n) + count es) ∷ emit_items i z) (sym h))

pub record Whole (s r : Tokens) (base out : Steps) : Type 0 where
  pub tree : Expression
  pub spells : Spells L s r tree
  pub steps_are : out ≡ emit spells base

pub last_item : (n : ℕ) (s q r : Tokens) (base o o' : Steps) (e : Expression) → Before n s q base o → (d : Spells E q r e) → o' ≡ emit d o → Whole s r base (listed n o')
last_item zero s q r base o o' e b d h =
    let here : Whole q r o o' = record { tree = e; spells = g.single d; steps_are = h } in
    subst (λ (y : Tokens). Whole y r base o') (sym b.0) (subst (λ (z : Steps). Whole q r z o') b.1 here)
last_item (suc n) s q r base o o' e b d h =
    let y = b r (x.more_expressions e x.end_of_expressions) (g.last_item d) in
    record { tree = x.Tuple y.0; spells = y.1; steps_are = ap (λ (k : ℕ). m.MakeTuple k ∷ o') (omega arith) ∙ ap (λ (z : Steps). m.MakeTuple (suc n + 1) ∷ z) h ∙ sym y.2 }

pub last_comma : (n : ℕ) (s r : Tokens) (base o : Steps) → Before (suc n) s r base o → Whole s r base (m.MakeTuple (suc n) ∷ o)
last_comma n s r base o b =
    let y = b r x.end_of_expressions g.no_item in
    record { tree = x.Tuple y.0; spells = y.1; steps_are = ap (λ (k : ℕ). m.MakeTuple k ∷ o) (omega arith) ∙ sym y.2 }

add_list_item : (n : ℕ) (s q r : Tokens) (base o o' : Steps) (e : Expression) → BeforeItems n s q base o → (d : Spells E q (t.comma ∷ r) e) → o' ≡ emit d o → BeforeItems (suc n) s r base o'
add_list_item n s q r base o o' e b d h = λ r' es i.
    let y = b r' (x.more_expressions e es) (g.next_item d i) in
    (y.0, y.1, y.2 ∙ sym (ap (emit_items i) h), omega (arith, y.3))

add_pair : (n : ℕ) (s q q' r : Tokens) (base o o' o'' : Steps) (k v : Expression) → BeforePairs n s q base o → (d : Spells E q (t.colon ∷ q') k) → o' ≡ emit d o → (i : Spells E q' (t.comma ∷ r) v) → o'' ≡ emit i o' → BeforePairs (suc n) s r base o''
add_pair n s q q' r base o o' o'' k v b d h i h' = λ r' ps l.
    let y = b r' (x.more_pairs (x.Paired k v) ps) (g.next_pair d i l) in
    (y.0, y.1, y.2 ∙ sym (ap (emit_entries l) (h' ∙ ap (emit i) h)), omega (arith, y.3))

add_argument : (n : ℕ) (s q r : Tokens) (base o o' : Steps) (e : Expression) → BeforeArguments n s q base o → (d : Spells E q (t.comma ∷ r) e) → o' ≡ emit d o → BeforeArguments (suc n) s r base o'
add_argument n s q r base o o' e b d h = λ r' es ks i.
    let y = b r' (x.more_expressions e es) ks (g.next_argument d i) in
    (y.0, y.1, y.2 ∙ sym (ap (emit_arguments i) h), omega (arith, y.3))

-- ---- what holds behind a token

abbrev pub Holds : Start → Mode → Frames → Steps → Tokens → Type 0
Holds s0 m.Want fs o r = Opened s0 fs o r
Holds s0 m.Next fs o r = Opened s0 fs o r
Holds s0 m.Have fs o r = Phrase P s0 r fs o
Holds s0 m.Dotted fs o r = Phrase P s0 (t.dot ∷ r) fs o
Holds s0 m.NotIn fs o r = Left S 4 (Opened s0 fs) fs o (t.not_ ∷ r)
Holds s0 m.Is fs o r = Left S 4 (Opened s0 fs) fs o (t.is_ ∷ r)
Holds s0 m.IsNot fs o r = Left S 4 (Opened s0 fs) fs o (t.is_ ∷ t.not_ ∷ r)
Holds s0 m.Compared fs o r = Left C 4 (Opened s0 fs) fs o r

abbrev pub After : Start → Option State → Tokens → Type 0
After s0 None r = Unit {0}
After s0 (Some s) r = Holds s0 s.mode s.frames s.steps r

put : (s0 : Start) (s r : Tokens) (fs : Frames) (o : Steps) (e : Expression) (d : Spells P s r e) → Opened s0 fs o s → Phrase P s0 r fs (emit d o)
put s0 s r fs o e d p = record { from = s; tree = e; before = o; spells = d; steps_are = refl; below = p; fit = omega arith }

only_if : (s0 : Start) (r : Tokens) (b : Bool) (a c : ℕ) (s : State) → (b ≡ true → a ≤ c) → (a ≤ c → Holds s0 s.mode s.frames s.steps r) → After s0 (cond b (Some s) None) r
only_if s0 r true a c s h p = p (h refl)
only_if s0 r false a c s h p = tt

-- ---- calls

if_distinct : (s0 : Start) (r : Tokens) (b : Bool) (s : State) → (b ≡ true → Holds s0 s.mode s.frames s.steps r) → After s0 (cond b (Some s) None) r
if_distinct s0 r true s p = p refl
if_distinct s0 r false s p = tt

called_ok : (s0 : Start) (r : Tokens) (fs : Frames) (s : Tokens) (base o : Steps) (n : ℕ) (names : List Text) → Left P 0 (Opened s0 fs) fs base (t.left_paren ∷ s) → (es : Expressions) (ks : Keywords) (j : Arguments s (t.right_paren ∷ r) es ks)
    → names ≡ names_of ks → n ≡ count es → o ≡ emit_arguments j base → After s0 (called n names fs o) r
called_ok s0 r fs s base o n names l es ks j names_are n_is o_is =
    if_distinct s0 r (no_repeats names) (state m.Have fs (m.MakeCall n (length names) ∷ o)) (λ h. record {
      from = l.from;
      tree = x.Call l.tree es ks;
      before = l.before;
      spells = g.a_call l.spells j (distinct_is ks ∙ ap no_repeats (sym names_are) ∙ h);
      steps_are = ap (λ (i : ℕ). m.MakeCall i (length names) ∷ o) n_is
          ∙ ap (λ (i : ℕ). m.MakeCall (count es) i ∷ o) (ap length names_are ∙ names_length ks)
          ∙ ap (λ (z : Steps). m.MakeCall (count es) (count_keywords ks) ∷ z) (o_is ∙ ap (emit_arguments j) l.steps_are);
      below = l.below;
      fit = omega arith;
    })

call_ok : (s0 : Start) (r : Tokens) (names : List Text) (fs : Frames) (base o : Steps) (q : Tokens) (name : Text) (v : Expression) (ks : Keywords) (i : KeywordsAt q (t.right_paren ∷ r) (x.more_keywords (x.Named name v) ks))
    → Opened s0 fs base q → names ≡ name ∷ names_of ks → o ≡ emit_keywords i base → After s0 (call names fs o) r
call_ok s0 r names (m.Named other_ ∷ fs) base o q name v ks i p names_are o_is =
    let l = p.below in
    call_ok s0 r (other_ ∷ names) fs l.0 o (token.Name other_ ∷ t.equal ∷ p.from) other_ p.tree (x.more_keywords (x.Named name v) ks) (g.next_keyword p.spells i) l.2 (ap (λ (ns : List Text). other_ ∷ ns) names_are)
    (o_is ∙ ap (emit_keywords i) (p.steps_are ∙ ap (emit p.spells) l.1))
call_ok s0 r names (m.Call n ∷ fs) base o q name v ks i p names_are o_is =
    let y = p.2 (t.right_paren ∷ r) x.end_of_expressions (x.more_keywords (x.Named name v) ks) (g.only_keywords i) in
    called_ok s0 r fs p.0 p.1 o n names p.3 y.0 (x.more_keywords (x.Named name v) ks) y.1 names_are (omega (arith, y.3)) (o_is ∙ sym y.2)
call_ok s0 r names _ base o q name v ks i p names_are o_is = tt

-- ---- a token behind an expression

module _ (s0 : Start) (r : Tokens) where
  comma_at : (fs : Frames) (o : Steps) → Phrase E s0 (t.comma ∷ r) fs o → After s0 (comma fs o) r
  comma_at (m.Line n ∷ fs) o p = (p.below.0, p.below.1, add_item n s0.tokens p.from r [] p.before o p.tree p.below.2 p.spells p.steps_are)
  comma_at (m.Group n ∷ fs) o p = (p.below.0, p.below.1, add_item n p.below.0 p.from r p.below.1 p.before o p.tree p.below.2 p.spells p.steps_are, p.below.3)
  comma_at (m.Index n ∷ fs) o p = (p.below.0, p.below.1, add_item n p.below.0 p.from r p.below.1 p.before o p.tree p.below.2 p.spells p.steps_are, p.below.3)
  comma_at (m.Listed n ∷ fs) o p = (p.below.0, p.below.1, add_list_item n p.below.0 p.from r p.below.1 p.before o p.tree p.below.2 p.spells p.steps_are, p.below.3)
  comma_at (m.Value n ∷ fs) o p =
      let k = p.below in
      let b = k.below in
      (b.0, b.1, add_pair n b.0 k.from p.from r b.1 k.before p.before o k.tree p.tree b.2 k.spells k.steps_are p.spells p.steps_are, b.3)
  comma_at (m.Call n ∷ fs) o p = (p.below.0, p.below.1, add_argument n p.below.0 p.from r p.below.1 p.before o p.tree p.below.2 p.spells p.steps_are, p.below.3)
  comma_at (m.Key name ∷ fs) o p = record { from = p.from; tree = p.tree; before = p.before; spells = p.spells; steps_are = p.steps_are; below = p.below; fit = omega arith }
  comma_at _ o p = tt

  paren_at : (fs : Frames) (o : Steps) → Phrase E s0 (t.right_paren ∷ r) fs o → After s0 (paren fs o) r
  paren_at (m.Group n ∷ fs) o p =
      let y = last_item n p.below.0 p.from (t.right_paren ∷ r) p.below.1 p.before o p.tree p.below.2 p.spells p.steps_are in
      record { from = t.left_paren ∷ p.below.0; tree = y.tree; before = p.below.1; spells = g.a_group y.spells; steps_are = ap (λ (z : Steps). m.Grouped ∷ z) y.steps_are; below = p.below.3; fit = omega arith }
  paren_at (m.Call n ∷ fs) o p =
      let y = p.below.2 (t.right_paren ∷ r) (x.more_expressions p.tree x.end_of_expressions) x.end_of_keywords (g.last_argument p.spells) in
      called_ok s0 r fs p.below.0 p.below.1 o (suc n) [] p.below.3 y.0 x.end_of_keywords y.1 refl (omega (arith, y.3)) (p.steps_are ∙ sym y.2)
  paren_at (m.Key name ∷ fs) o p =
      let l = p.below in
      call_ok s0 r (name ∷ []) fs l.0 o (token.Name name ∷ t.equal ∷ p.from) name p.tree x.end_of_keywords (g.last_keyword p.spells) l.2 refl (p.steps_are ∙ ap (emit p.spells) l.1)
  paren_at _ o p = tt

  bracket_at : (fs : Frames) (o : Steps) → Phrase E s0 (t.right_bracket ∷ r) fs o → After s0 (bracket fs o) r
  bracket_at (m.Index n ∷ fs) o p =
      let y = last_item n p.below.0 p.from (t.right_bracket ∷ r) p.below.1 p.before o p.tree p.below.2 p.spells p.steps_are in
      let l = p.below.3 in
      record { from = l.from; tree = x.Index l.tree y.tree; before = l.before; spells = g.an_index l.spells y.spells; steps_are = ap (λ (z : Steps). m.MakeIndex ∷ z) (y.steps_are ∙ ap (emit y.spells) l.steps_are); below = l.below; fit = omega arith }
  bracket_at (m.Listed n ∷ fs) o p =
      let y = p.below.2 (t.right_bracket ∷ r) (x.more_expressions p.tree x.end_of_expressions) (g.last_item p.spells) in
      record {
        from = t.left_bracket ∷ p.below.0;
        tree = x.Listed y.0;
        before = p.below.1;
        spells = g.a_list y.1;
        steps_are = ap (λ (k : ℕ). m.MakeList k ∷ o) (omega (arith, y.3)) ∙ ap (λ (z : Steps). m.MakeList (count y.0) ∷ z) (p.steps_are ∙ sym y.2);
        below = p.below.3;
        fit = omega arith;
      }
  bracket_at _ o p = tt

  brace_at : (fs : Frames) (o : Steps) → Phrase E s0 (t.right_brace ∷ r) fs o → After s0 (brace fs o) r
  brace_at (m.Value n ∷ fs) o p =
      let k = p.below in
      let b = k.below in
      let y = b.2 (t.right_brace ∷ r) (x.more_pairs (x.Paired k.tree p.tree) x.end_of_pairs) (g.last_pair k.spells p.spells) in
      record {
        from = t.left_brace ∷ b.0;
        tree = x.Dict y.0;
        before = b.1;
        spells = g.a_dict y.1;
        steps_are = ap (λ (i : ℕ). m.MakeDict i ∷ o) (omega (arith, y.3)) ∙ ap (λ (z : Steps). m.MakeDict (count_pairs y.0) ∷ z) (p.steps_are ∙ ap (emit p.spells) k.steps_are ∙ sym y.2);
        below = b.3;
        fit = omega arith;
      }
  brace_at _ o p = tt

  colon_at : (fs : Frames) (o : Steps) → Phrase E s0 (t.colon ∷ r) fs o → After s0 (colon fs o) r
  colon_at (m.Entry n ∷ fs) o p = record { from = p.from; tree = p.tree; before = p.before; spells = p.spells; steps_are = p.steps_are; below = p.below; fit = omega arith }
  colon_at _ o p = tt

  other_at : (fs : Frames) (o : Steps) → Phrase O s0 (t.else_ ∷ r) fs o → After s0 (other fs o) r
  other_at (m.Test ∷ fs) o p = record { from = p.from; tree = p.tree; before = p.before; spells = p.spells; steps_are = p.steps_are; below = p.below; fit = omega arith }
  other_at _ o p = tt

  ended_expression : (c : Token) (next : Frames → Steps → Option State) → ((fs : Frames) (o : Steps) → Phrase E s0 (c ∷ r) fs o → After s0 (next fs o) r) → (d : Done) → Closed 8 s0 (c ∷ r) d → After s0 (after next d) r
  ended_expression c next h d y = h d.frames d.steps (as_E s0 (c ∷ r) d.frames d.steps y.level y.closed y.phrase)

  push_ok : (f : Frame) (d : Done) → (stands_at f ≤ wants d.frames → Opened s0 (f ∷ d.frames) d.steps r) → After s0 (after (push f) d) r
  push_ok f d h = only_if s0 r (nat_le (stands_at f) (wants d.frames)) (stands_at f) (wants d.frames) (state m.Want (f ∷ d.frames) d.steps) (leb-true (stands_at f) (wants d.frames)) h

  -- from a phrase of a level at most C
  module _ (fs : Frames) (o : Steps) (j : Level) (small : rank j ≤ 4) (fits : rank j ≤ wants fs) where
    shut : (k : ℕ) → 4 ≤ k → k ≤ 8 → (c : Token) → Phrase j s0 (c ∷ r) fs o → Closed k s0 (c ∷ r) (close k fs o)
    shut k h h' c p = close_ok k h' s0 (c ∷ r) fs o j p (omega (arith, h, small)) fits

    follow_ok : (c : Token) → Phrase j s0 (c ∷ r) fs o → After s0 (follow fs o c) r
    follow_ok (token.Word word.Else) p = let y = shut 7 (omega arith) (omega arith) t.else_ p in other_at (close 7 fs o).frames (close 7 fs o).steps (as_O s0 (t.else_ ∷ r) (close 7 fs o).frames (close 7 fs o).steps y.level y.closed y.phrase)
    follow_ok (token.Mark mark.Comma) p = ended_expression t.comma comma comma_at (close 8 fs o) (shut 8 (omega arith) (omega arith) t.comma p)
    follow_ok (token.Mark mark.RightParen) p = ended_expression t.right_paren paren paren_at (close 8 fs o) (shut 8 (omega arith) (omega arith) t.right_paren p)
    follow_ok (token.Mark mark.RightBracket) p = ended_expression t.right_bracket bracket bracket_at (close 8 fs o) (shut 8 (omega arith) (omega arith) t.right_bracket p)
    follow_ok (token.Mark mark.RightBrace) p = ended_expression t.right_brace brace brace_at (close 8 fs o) (shut 8 (omega arith) (omega arith) t.right_brace p)
    follow_ok (token.Mark mark.Colon) p = ended_expression t.colon colon colon_at (close 8 fs o) (shut 8 (omega arith) (omega arith) t.colon p)
    follow_ok (token.Word word.And) p =
        let d = close 6 fs o in
        let y = shut 6 (omega arith) (omega arith) t.and_ p in
        push_ok m.And d (λ h. fitting A 6 s0 (t.and_ ∷ r) d.frames d.steps (as_A s0 (t.and_ ∷ r) d.frames d.steps y.level y.closed y.phrase) h)
    follow_ok (token.Word word.Or) p =
        let d = close 7 fs o in
        let y = shut 7 (omega arith) (omega arith) t.or_ p in
        push_ok m.Or d (λ h. fitting O 7 s0 (t.or_ ∷ r) d.frames d.steps (as_O s0 (t.or_ ∷ r) d.frames d.steps y.level y.closed y.phrase) h)
    follow_ok (token.Word word.If) p =
        let d = close 7 fs o in
        let y = shut 7 (omega arith) (omega arith) t.if_ p in
        push_ok m.Test d (λ h. fitting O 8 s0 (t.if_ ∷ r) d.frames d.steps (as_O s0 (t.if_ ∷ r) d.frames d.steps y.level y.closed y.phrase) h)
    follow_ok _ p = tt

-- ---- what the newest step says

abbrev IsText : Steps → Type 0
IsText (m.PutText u ∷ o) = Unit {0}
IsText (m.JoinText u ∷ o) = Unit {0}
IsText _ = ⊥

record TextRead (s r : Tokens) (before o : Steps) : Type 0 where
  text : Text
  joined_ : Joined s r text
  steps_are : o ≡ emit_text joined_ before

text_of : {s r : Tokens} {e : Expression} (d : Spells P s r e) → (before o : Steps) → o ≡ emit d before → IsText o → TextRead s r before o
text_of (g.a_text {u = u} j) before o e h = record { text = u; joined_ = j; steps_are = e }
text_of g.a_name before o e h = absurd (subst IsText e h)
text_of g.an_int before o e h = absurd (subst IsText e h)
text_of g.a_none before o e h = absurd (subst IsText e h)
text_of g.a_true before o e h = absurd (subst IsText e h)
text_of g.a_false before o e h = absurd (subst IsText e h)
text_of (g.a_group d) before o e h = absurd (subst IsText e h)
text_of g.a_unit before o e h = absurd (subst IsText e h)
text_of (g.a_list i) before o e h = absurd (subst IsText e h)
text_of (g.a_dict i) before o e h = absurd (subst IsText e h)
text_of (g.an_attribute d) before o e h = absurd (subst IsText e h)
text_of (g.an_index d i) before o e h = absurd (subst IsText e h)
text_of (g.a_call d i q) before o e h = absurd (subst IsText e h)

abbrev IsName : Text → Steps → Steps → Type 0
IsName name base (m.PutName n ∷ o) = (n ≡ name) × (o ≡ base)
IsName name base _ = ⊥

no_text_name : {s r : Tokens} {u : Text} (j : Joined s r u) → (name : Text) (base before : Steps) → IsName name base (emit_text j before) → ⊥
no_text_name g.one_text name base before h = h
no_text_name (g.next_text j) name base before h = h

-- a phrase whose newest step puts a name is the name
name_of : {s r : Tokens} {e : Expression} (d : Spells P s r e) → (name : Text) (base before : Steps) → IsName name base (emit d before) → (opened : Steps → Tokens → Type 0) → opened before s → opened base (token.Name name ∷ r)
name_of (g.a_name {n = n} {r = r}) name base before h opened p = subst (λ (y : Text). opened base (token.Name y ∷ r)) h.0 (subst (λ (o : Steps). opened o (token.Name n ∷ r)) h.1 p)
name_of (g.a_text j) name base before h opened p = absurd (no_text_name j name base before h)
name_of g.an_int name base before h opened p = absurd h
name_of g.a_none name base before h opened p = absurd h
name_of g.a_true name base before h opened p = absurd h
name_of g.a_false name base before h opened p = absurd h
name_of (g.a_group d) name base before h opened p = absurd h
name_of g.a_unit name base before h opened p = absurd h
name_of (g.a_list i) name base before h opened p = absurd h
name_of (g.a_dict i) name base before h opened p = absurd h
name_of (g.an_attribute d) name base before h opened p = absurd h
name_of (g.an_index d i) name base before h opened p = absurd h
name_of (g.a_call d i q) name base before h opened p = absurd h

-- ---- a token behind a primary, and where an operand is wanted

module _ (s0 : Start) (r : Tokens) where
  rejoined : (v : Text) (fs : Frames) (o : Steps) → Phrase P s0 (token.Str v ∷ r) fs o → IsText o → Phrase P s0 r fs (m.JoinText v ∷ o)
  rejoined v fs o p h =
      let y = text_of p.spells p.before o p.steps_are h in
      record { from = p.from; tree = x.Str (y.text ++ v); before = p.before; spells = g.a_text (g.next_text y.joined_); steps_are = ap (λ (z : Steps). m.JoinText v ∷ z) y.steps_are; below = p.below; fit = omega arith }

  joined_ok : (v : Text) (fs : Frames) (o : Steps) → Phrase P s0 (token.Str v ∷ r) fs o → After s0 (joined v fs o) r
  joined_ok v fs [] p = tt
  joined_ok v fs (m.PutText u ∷ o) p = rejoined v fs (m.PutText u ∷ o) p tt
  joined_ok v fs (m.JoinText u ∷ o) p = rejoined v fs (m.JoinText u ∷ o) p tt
  joined_ok v fs _ p = tt

  named_ok : (fs : Frames) (o : Steps) → Phrase P s0 (t.equal ∷ r) fs o → After s0 (named fs o) r
  named_ok fs [] p = tt
  named_ok fs (m.PutName name ∷ o) p =
      let here : IsName name o (emit p.spells p.before) = subst (IsName name o) p.steps_are (refl, refl) in
      (o, refl, name_of p.spells name o p.before here (Opened s0 fs) p.below)
  named_ok fs _ p = tt

  equal_ok : (fs : Frames) (o : Steps) → Phrase P s0 (t.equal ∷ r) fs o → After s0 (equal fs o) r
  equal_ok fs o p = go (in_call fs)
    where
      go : (b : Bool) → After s0 (cond b (named fs o) None) r
      go true = named_ok fs o p
      go false = tt

  product_ok : (c : Token) (op : _) → g.Product c op → (d : Done) → Closed 2 s0 (c ∷ r) d → After s0 (after (push (m.Product op)) d) r
  product_ok c op pc d y = push_ok s0 r (m.Product op) d (λ h. (c, pc, fitting M 2 s0 (c ∷ r) d.frames d.steps (as_M s0 (c ∷ r) d.frames d.steps y.level y.closed y.phrase) h))

  sum_ok : (c : Token) (op : _) → g.Sum c op → (d : Done) → Closed 3 s0 (c ∷ r) d → After s0 (after (push (m.Sum op)) d) r
  sum_ok c op pc d y = push_ok s0 r (m.Sum op) d (λ h. (c, pc, fitting S 3 s0 (c ∷ r) d.frames d.steps (as_S s0 (c ∷ r) d.frames d.steps y.level y.closed y.phrase) h))

  comparison_ok : (c : Token) (op : CompareOp) → g.Comparison c op → (d : Done) → Closed 3 s0 (c ∷ r) d → After s0 (after (push (m.Compare op)) d) r
  comparison_ok c op pc d y = push_ok s0 r (m.Compare op) d (λ h. (c ∷ r, one_token pc, fitting S 4 s0 (c ∷ r) d.frames d.steps (as_S s0 (c ∷ r) d.frames d.steps y.level y.closed y.phrase) h))

  behind_ok : (fs : Frames) (o : Steps) (c : Token) → Phrase P s0 (c ∷ r) fs o → After s0 (behind fs o c) r
  behind_ok fs o c p = go c p
    where
      fits : 1 ≤ wants fs
      fits = wants_some s0 fs p.before p.from p.below

      shut_to : (k : ℕ) → 1 ≤ k → k ≤ 8 → (c : Token) → Phrase P s0 (c ∷ r) fs o → Closed k s0 (c ∷ r) (close k fs o)
      shut_to k h h' c p = close_ok k h' s0 (c ∷ r) fs o P p h fits

      go : (c : Token) → Phrase P s0 (c ∷ r) fs o → After s0 (behind fs o c) r
      go (token.Str v) p = joined_ok v fs o p
      go (token.Mark mark.Dot) p = p
      go (token.Mark mark.LeftBracket) p = (r, o, (refl, refl), p)
      go (token.Mark mark.LeftParen) p = (r, o, (λ r' es ks i. (es, i, refl, omega arith)), p)
      go (token.Mark mark.Equal) p = equal_ok fs o p
      go (token.Word word.Not) p =
          let d = close 3 fs o in
          let y = shut_to 3 (omega arith) (omega arith) t.not_ p in
          only_if s0 r (nat_le 4 (wants d.frames)) 4 (wants d.frames) (state m.NotIn d.frames d.steps) (leb-true 4 (wants d.frames))
          (λ h. fitting S 4 s0 (t.not_ ∷ r) d.frames d.steps (as_S s0 (t.not_ ∷ r) d.frames d.steps y.level y.closed y.phrase) h)
      go (token.Word word.Is) p =
          let d = close 3 fs o in
          let y = shut_to 3 (omega arith) (omega arith) t.is_ p in
          only_if s0 r (nat_le 4 (wants d.frames)) 4 (wants d.frames) (state m.Is d.frames d.steps) (leb-true 4 (wants d.frames))
          (λ h. fitting S 4 s0 (t.is_ ∷ r) d.frames d.steps (as_S s0 (t.is_ ∷ r) d.frames d.steps y.level y.closed y.phrase) h)
      go (token.Mark mark.Star) p = product_ok t.star binary.Mul g.times (close 2 fs o) (shut_to 2 (omega arith) (omega arith) t.star p)
      go (token.Mark mark.DoubleSlash) p = product_ok t.double_slash binary.FloorDiv g.floor_division (close 2 fs o) (shut_to 2 (omega arith) (omega arith) t.double_slash p)
      go (token.Mark mark.Percent) p = product_ok t.percent binary.Mod g.remainder (close 2 fs o) (shut_to 2 (omega arith) (omega arith) t.percent p)
      go (token.Mark mark.Plus) p = sum_ok t.plus binary.Add g.addition (close 3 fs o) (shut_to 3 (omega arith) (omega arith) t.plus p)
      go (token.Mark mark.Minus) p = sum_ok t.minus binary.Sub g.subtraction (close 3 fs o) (shut_to 3 (omega arith) (omega arith) t.minus p)
      go (token.Mark mark.EqualEqual) p = comparison_ok t.equal_equal compare.Eq g.equal (close 3 fs o) (shut_to 3 (omega arith) (omega arith) t.equal_equal p)
      go (token.Mark mark.NotEqual) p = comparison_ok t.not_equal compare.Ne g.unequal (close 3 fs o) (shut_to 3 (omega arith) (omega arith) t.not_equal p)
      go (token.Mark mark.Less) p = comparison_ok t.less compare.Lt g.less (close 3 fs o) (shut_to 3 (omega arith) (omega arith) t.less p)
      go (token.Mark mark.LessEqual) p = comparison_ok t.less_equal compare.Le g.less_or_equal (close 3 fs o) (shut_to 3 (omega arith) (omega arith) t.less_equal p)
      go (token.Mark mark.Greater) p = comparison_ok t.greater compare.Gt g.greater (close 3 fs o) (shut_to 3 (omega arith) (omega arith) t.greater p)
      go (token.Mark mark.GreaterEqual) p = comparison_ok t.greater_equal compare.Ge g.greater_or_equal (close 3 fs o) (shut_to 3 (omega arith) (omega arith) t.greater_equal p)
      go (token.Word word.In) p = comparison_ok t.in_ compare.In g.member (close 3 fs o) (shut_to 3 (omega arith) (omega arith) t.in_ p)
      go c p = follow_ok s0 r fs o P (omega arith) fits c p

  operand_ok : (fs : Frames) (o : Steps) (c : Token) → Opened s0 fs o (c ∷ r) → After s0 (operand fs o c) r
  operand_ok fs o (token.Name n) p = put s0 (token.Name n ∷ r) r fs o (x.Name n) g.a_name p
  operand_ok fs o (token.Int n) p = put s0 (token.Int n ∷ r) r fs o (x.Int n) g.an_int p
  operand_ok fs o (token.Str u) p = put s0 (token.Str u ∷ r) r fs o (x.Str u) (g.a_text g.one_text) p
  operand_ok fs o (token.Word word.None) p = put s0 (t.none ∷ r) r fs o x.Nil g.a_none p
  operand_ok fs o (token.Word word.True) p = put s0 (t.true_ ∷ r) r fs o x.True g.a_true p
  operand_ok fs o (token.Word word.False) p = put s0 (t.false_ ∷ r) r fs o x.False g.a_false p
  operand_ok fs o (token.Word word.Not) p =
      only_if s0 r (nat_le 5 (wants fs)) 5 (wants fs) (state m.Want (m.Negation ∷ fs) o) (leb-true 5 (wants fs)) (λ h. (h, p))
  operand_ok fs o (token.Mark mark.Minus) p = (t.minus, g.minus, wants_some s0 fs o (t.minus ∷ r) p, p)
  operand_ok fs o (token.Mark mark.Plus) p = (t.plus, g.plus, wants_some s0 fs o (t.plus ∷ r) p, p)
  operand_ok fs o (token.Mark mark.LeftParen) p = (r, o, (refl, refl), p)
  operand_ok fs o (token.Mark mark.LeftBracket) p = (r, o, (λ r' es i. (es, i, refl, omega arith)), p)
  operand_ok fs o (token.Mark mark.LeftBrace) p = (r, o, (λ r' ps i. (ps, i, refl, omega arith)), p)
  operand_ok fs o _ p = tt

  paren_after_ok : (fs : Frames) (o : Steps) → Opened s0 fs o (t.right_paren ∷ r) → After s0 (paren_after_comma fs o) r
  paren_after_ok (m.Group zero ∷ fs) o p = record {
    from = t.left_paren ∷ t.right_paren ∷ r;
    tree = x.Tuple x.end_of_expressions;
    before = o;
    spells = g.a_unit;
    steps_are = refl;
    below = subst (λ (z : Steps). Opened s0 fs z (t.left_paren ∷ t.right_paren ∷ r)) (sym p.2.1) (subst (λ (y : Tokens). Opened s0 fs p.1 (t.left_paren ∷ y)) p.2.0 p.3);
    fit = omega arith;
  }
  paren_after_ok (m.Group (suc n) ∷ fs) o p =
      let y = last_comma n p.0 (t.right_paren ∷ r) p.1 o p.2 in
      record { from = t.left_paren ∷ p.0; tree = y.tree; before = p.1; spells = g.a_group y.spells; steps_are = ap (λ (z : Steps). m.Grouped ∷ z) y.steps_are; below = p.3; fit = omega arith }
  paren_after_ok (m.Call n ∷ fs) o p =
      let y = p.2 (t.right_paren ∷ r) x.end_of_expressions x.end_of_keywords g.no_argument in
      called_ok s0 r fs p.0 p.1 o n [] p.3 y.0 x.end_of_keywords y.1 refl (omega (arith, y.3)) (sym y.2)
  paren_after_ok (m.Named name ∷ fs) o p = named_call name fs o p
    where
      named_call : (name : Text) (fs : Frames) (o : Steps) → Left E 0 (InKeyword name (Opened s0 fs)) fs o (t.comma ∷ t.right_paren ∷ r) → After s0 (call (name ∷ []) fs o) r
      named_call name fs o p =
          let l = p.below in
          call_ok s0 r (name ∷ []) fs l.0 o (token.Name name ∷ t.equal ∷ p.from) name p.tree x.end_of_keywords (g.next_keyword p.spells g.no_keyword) l.2 refl (p.steps_are ∙ ap (emit p.spells) l.1)
  paren_after_ok _ o p = tt

  bracket_after_ok : (fs : Frames) (o : Steps) → Opened s0 fs o (t.right_bracket ∷ r) → After s0 (bracket_after_comma fs o) r
  bracket_after_ok (m.Index (suc n) ∷ fs) o p =
      let y = last_comma n p.0 (t.right_bracket ∷ r) p.1 o p.2 in
      let l = p.3 in
      record { from = l.from; tree = x.Index l.tree y.tree; before = l.before; spells = g.an_index l.spells y.spells; steps_are = ap (λ (z : Steps). m.MakeIndex ∷ z) (y.steps_are ∙ ap (emit y.spells) l.steps_are); below = l.below; fit = omega arith }
  bracket_after_ok (m.Listed n ∷ fs) o p =
      let y = p.2 (t.right_bracket ∷ r) x.end_of_expressions g.no_item in
      record { from = t.left_bracket ∷ p.0; tree = x.Listed y.0; before = p.1; spells = g.a_list y.1; steps_are = ap (λ (k : ℕ). m.MakeList k ∷ o) (omega (arith, y.3)) ∙ ap (λ (z : Steps). m.MakeList (count y.0) ∷ z) (sym y.2); below = p.3; fit = omega arith }
  bracket_after_ok _ o p = tt

  brace_after_ok : (fs : Frames) (o : Steps) → Opened s0 fs o (t.right_brace ∷ r) → After s0 (brace_after_comma fs o) r
  brace_after_ok (m.Entry n ∷ fs) o p =
      let y = p.2 (t.right_brace ∷ r) x.end_of_pairs g.no_pair in
      record { from = t.left_brace ∷ p.0; tree = x.Dict y.0; before = p.1; spells = g.a_dict y.1; steps_are = ap (λ (k : ℕ). m.MakeDict k ∷ o) (omega (arith, y.3)) ∙ ap (λ (z : Steps). m.MakeDict (count_pairs y.0) ∷ z) (sym y.2); below = p.3; fit = omega arith }
  brace_after_ok _ o p = tt

  next_ok : (fs : Frames) (o : Steps) (c : Token) → Opened s0 fs o (c ∷ r) → After s0 (operand_or_end fs o c) r
  next_ok fs o (token.Mark mark.RightParen) p = paren_after_ok fs o p
  next_ok fs o (token.Mark mark.RightBracket) p = bracket_after_ok fs o p
  next_ok fs o (token.Mark mark.RightBrace) p = brace_after_ok fs o p
  next_ok fs o c p = operand_ok fs o c p

  dotted_ok : (fs : Frames) (o : Steps) (c : Token) → Phrase P s0 (t.dot ∷ c ∷ r) fs o → After s0 (dotted fs o c) r
  dotted_ok fs o (token.Name n) p =
      record { from = p.from; tree = x.Attr p.tree n; before = p.before; spells = g.an_attribute p.spells; steps_are = ap (λ (z : Steps). m.MakeAttr n ∷ z) p.steps_are; below = p.below; fit = omega arith }
  dotted_ok fs o _ p = tt

  not_in_ok : (fs : Frames) (o : Steps) (c : Token) → Left S 4 (Opened s0 fs) fs o (t.not_ ∷ c ∷ r) → After s0 (not_in fs o c) r
  not_in_ok fs o (token.Word word.In) p = (t.not_ ∷ t.in_ ∷ r, two_tokens, p)
  not_in_ok fs o _ p = tt

  is_ok_at : (c : Token) (k : Const) → g.Constant c k → (fs : Frames) (o : Steps) → Left S 4 (Opened s0 fs) fs o (t.is_ ∷ c ∷ r) → Left C 4 (Opened s0 fs) fs (m.MakeIs false k ∷ o) r
  is_ok_at c k q fs o p = record { from = p.from; tree = x.Is false p.tree k; before = p.before; spells = g.an_is q p.spells; steps_are = ap (λ (z : Steps). m.MakeIs false k ∷ z) p.steps_are; below = p.below; fit = p.fit }

  is_not_ok_at : (c : Token) (k : Const) → g.Constant c k → (fs : Frames) (o : Steps) → Left S 4 (Opened s0 fs) fs o (t.is_ ∷ t.not_ ∷ c ∷ r) → Left C 4 (Opened s0 fs) fs (m.MakeIs true k ∷ o) r
  is_not_ok_at c k q fs o p = record { from = p.from; tree = x.Is true p.tree k; before = p.before; spells = g.an_is_not q p.spells; steps_are = ap (λ (z : Steps). m.MakeIs true k ∷ z) p.steps_are; below = p.below; fit = p.fit }

  is_ok : (fs : Frames) (o : Steps) (c : Token) → Left S 4 (Opened s0 fs) fs o (t.is_ ∷ c ∷ r) → After s0 (is fs o c) r
  is_ok fs o (token.Word word.Not) p = p
  is_ok fs o (token.Word word.None) p = is_ok_at t.none constant.Nil g.is_none fs o p
  is_ok fs o (token.Word word.True) p = is_ok_at t.true_ constant.True g.is_true fs o p
  is_ok fs o (token.Word word.False) p = is_ok_at t.false_ constant.False g.is_false fs o p
  is_ok fs o _ p = tt

  is_not_ok : (fs : Frames) (o : Steps) (c : Token) → Left S 4 (Opened s0 fs) fs o (t.is_ ∷ t.not_ ∷ c ∷ r) → After s0 (is_constant true (constant_of c) fs o) r
  is_not_ok fs o (token.Word word.None) p = is_not_ok_at t.none constant.Nil g.is_none fs o p
  is_not_ok fs o (token.Word word.True) p = is_not_ok_at t.true_ constant.True g.is_true fs o p
  is_not_ok fs o (token.Word word.False) p = is_not_ok_at t.false_ constant.False g.is_false fs o p
  is_not_ok fs o _ p = tt

  compared_ok : (fs : Frames) (o : Steps) (c : Token) → Left C 4 (Opened s0 fs) fs o (c ∷ r) → After s0 (follow fs o c) r
  compared_ok fs o c p = follow_ok s0 r fs o C (omega arith) p.fit c (record { from = p.from; tree = p.tree; before = p.before; spells = p.spells; steps_are = p.steps_are; below = p.below; fit = omega arith })

  pub step_ok : (mode : Mode) (fs : Frames) (o : Steps) (c : Token) → Holds s0 mode fs o (c ∷ r) → After s0 (step mode fs o c) r
  step_ok m.Want fs o c p = operand_ok fs o c p
  step_ok m.Next fs o c p = next_ok fs o c p
  step_ok m.Have fs o c p = behind_ok fs o c p
  step_ok m.Dotted fs o c p = dotted_ok fs o c p
  step_ok m.NotIn fs o c p = not_in_ok fs o c p
  step_ok m.Is fs o c p = is_ok fs o c p
  step_ok m.IsNot fs o c p = is_not_ok fs o c p
  step_ok m.Compared fs o c p = compared_ok fs o c p
