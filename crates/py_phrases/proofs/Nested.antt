-- The steps of a phrase count its nesting.
use Rattle.std.proofs.Common.{◌≡◌, ℕ, zero, suc, ◌+◌, ◌-◌, ◌<◌, ◌≤◌, max, length, List, [], ◌∷◌, Option, Some, None, refl, ap, ◌∙◌, arith}
use Rattle.py_tree.specs.Syntax as x
use Rattle.py_tree.specs.Syntax.{Expression, Expressions, Pairs, Keywords}
use Rattle.py_tree.specs.Nesting.{nesting, deepest, deepest_pair, deepest_keyword}
use Rattle.py_phrases.specs.Grammar as g
use Rattle.py_phrases.specs.Grammar.{Tokens, Level, Spells, Joined, Items, Entries, Arguments, KeywordsAt}
use Rattle.py_phrases.specs.Machine as m
use Rattle.py_phrases.specs.Machine.{Step, Steps}
use Rattle.py_phrases.specs.Emitted.{count, count_pairs, count_keywords, emit, emit_text, emit_items, emit_entries, emit_arguments, emit_keywords, nest, over, nestings, parts}
use Rattle.py_phrases.specs.Views.{step_of, steps_of, top, rest}
use Rattle.py_phrases.specs.declared.machine.Step as code_step

nesting_one : (e : Expression) → 1 ≤ nesting e
nesting_one x.Nil = omega arith
nesting_one x.True = omega arith
nesting_one x.False = omega arith
nesting_one (x.Int n) = omega arith
nesting_one (x.Str u) = omega arith
nesting_one (x.Name n) = omega arith
nesting_one (x.Tuple es) = omega arith
nesting_one (x.Listed es) = omega arith
nesting_one (x.Dict ps) = omega arith
nesting_one (x.Unary op a) = omega arith
nesting_one (x.Binary op a b) = omega arith
nesting_one (x.Compare op a b) = omega arith
nesting_one (x.Is negated a k) = omega arith
nesting_one (x.Not a) = omega arith
nesting_one (x.And a b) = omega arith
nesting_one (x.Or a b) = omega arith
nesting_one (x.Cond a b c) = omega arith
nesting_one (x.Attr a n) = omega arith
nesting_one (x.Index a b) = omega arith
nesting_one (x.Call a es ks) = omega arith

-- ---- one step alone

over_none : (count k : ℕ) (o : List ℕ) → over count 0 [] ≡ k ∷ o → 1 ≡ k
over_none zero k o is = grind arith
over_none (suc count) k o is = grind arith

nest_none : (count : Option ℕ) (k : ℕ) (o : List ℕ) → nest count [] ≡ k ∷ o → 1 ≡ k
nest_none None k o is = grind arith
nest_none (Some count) k o is = over_none count k o is

pub one_alone : (steps : List code_step.Step) → 1 ≤ length steps → length steps < 2 → (k : ℕ) (o : List ℕ) → nestings (steps_of steps) ≡ k ∷ o → 1 ≡ k
one_alone [] some few k o is = omega (arith, some)
one_alone (s ∷ []) some few k o is = nest_none (parts (step_of s)) k o is
one_alone (s ∷ t ∷ more) some few k o is = omega (arith, few)

-- the nestings of lists, the first deepest on the stack

abbrev depths : Expressions → List ℕ → List ℕ
depths x.end_of_expressions st = st
depths (x.more_expressions e es) st = depths es (nesting e ∷ st)

abbrev pair_depths : Pairs → List ℕ → List ℕ
pair_depths x.end_of_pairs st = st
pair_depths (x.more_pairs (x.Paired k v) ps) st = pair_depths ps (nesting v ∷ nesting k ∷ st)

abbrev keyword_depths : Keywords → List ℕ → List ℕ
keyword_depths x.end_of_keywords st = st
keyword_depths (x.more_keywords (x.Named n v) ks) st = keyword_depths ks (nesting v ∷ 1 ∷ st)

over_items : (es : Expressions) (d n : ℕ) (st : List ℕ) → over (count es + n) d (depths es st) ≡ over n (max (deepest es) d) st
over_items x.end_of_expressions d n st =
    let k : 0 + n ≡ n = omega arith in
    let y : max 0 d ≡ d = omega arith in
    rw (k, y) refl
over_items (x.more_expressions e es) d n st =
    let k : suc (count es) + n ≡ count es + suc n = omega arith in
    let y : max (nesting e) (max (deepest es) d) ≡ max (max (nesting e) (deepest es)) d = omega arith in
    rw k (over_items es d (suc n) (nesting e ∷ st) ∙ ap (λ z. over n z st) y)

over_pairs : (ps : Pairs) (d n : ℕ) (st : List ℕ) → over (count_pairs ps + count_pairs ps + n) d (pair_depths ps st) ≡ over n (max (deepest_pair ps) d) st
over_pairs x.end_of_pairs d n st =
    let k : 0 + 0 + n ≡ n = omega arith in
    let y : max 0 d ≡ d = omega arith in
    rw (k, y) refl
over_pairs (x.more_pairs (x.Paired a b) ps) d n st =
    let k : suc (count_pairs ps) + suc (count_pairs ps) + n ≡ count_pairs ps + count_pairs ps + suc (suc n) = omega arith in
    let y : max (nesting a) (max (nesting b) (max (deepest_pair ps) d)) ≡ max (max (max (nesting a) (nesting b)) (deepest_pair ps)) d = omega arith in
    rw k (over_pairs ps d (suc (suc n)) (nesting b ∷ nesting a ∷ st) ∙ ap (λ z. over n z st) y)

-- a name counts no more than its value
over_keywords : (ks : Keywords) (d n : ℕ) (st : List ℕ) → over (count_keywords ks + count_keywords ks + n) d (keyword_depths ks st) ≡ over n (max (deepest_keyword ks) d) st
over_keywords x.end_of_keywords d n st =
    let k : 0 + 0 + n ≡ n = omega arith in
    let y : max 0 d ≡ d = omega arith in
    rw (k, y) refl
over_keywords (x.more_keywords (x.Named a b) ks) d n st =
    let k : suc (count_keywords ks) + suc (count_keywords ks) + n ≡ count_keywords ks + count_keywords ks + suc (suc n) = omega arith in
    let one = nesting_one b in
    let y : max 1 (max (nesting b) (max (deepest_keyword ks) d)) ≡ max (max (nesting b) (deepest_keyword ks)) d = omega (arith, one) in
    rw k (over_keywords ks d (suc (suc n)) (nesting b ∷ 1 ∷ st) ∙ ap (λ z. over n z st) y)

items_over : (es : Expressions) (st : List ℕ) → over (count es) 0 (depths es st) ≡ suc (deepest es) ∷ st
items_over es st =
    let k : count es + 0 ≡ count es = omega arith in
    let y : max (deepest es) 0 ≡ deepest es = omega arith in
    (rw k at (over_items es 0 0 st)) ∙ ap (λ z. suc z ∷ st) y

pairs_over : (ps : Pairs) (st : List ℕ) → over (count_pairs ps + count_pairs ps) 0 (pair_depths ps st) ≡ suc (deepest_pair ps) ∷ st
pairs_over ps st =
    let k : count_pairs ps + count_pairs ps + 0 ≡ count_pairs ps + count_pairs ps = omega arith in
    let y : max (deepest_pair ps) 0 ≡ deepest_pair ps = omega arith in
    (rw k at (over_pairs ps 0 0 st)) ∙ ap (λ z. suc z ∷ st) y

call_over : (a : Expression) (es : Expressions) (ks : Keywords) (st : List ℕ)
    → over (count_keywords ks + count_keywords ks + count es + 1) 0 (keyword_depths ks (depths es (nesting a ∷ st))) ≡ nesting (x.Call a es ks) ∷ st
call_over a es ks st =
    let k : count_keywords ks + count_keywords ks + count es + 1 ≡ count_keywords ks + count_keywords ks + (count es + 1) = omega arith in
    let y : suc (max (nesting a) (max (deepest es) (max (deepest_keyword ks) 0))) ≡ nesting (x.Call a es ks) = omega arith in
    rw k (over_keywords ks 0 (count es + 1) (depths es (nesting a ∷ st)) ∙ over_items es (max (deepest_keyword ks) 0) 1 (nesting a ∷ st) ∙ ap (λ z. z ∷ st) y)

one : (a n : ℕ) (st st' : List ℕ) → st' ≡ a ∷ st → suc a ≡ n → over 1 0 st' ≡ n ∷ st
one a n st st' e h =
    let y : suc (max a 0) ≡ n = omega (arith, h) in
    ap (over 1 0) e ∙ ap (λ z. z ∷ st) y

two : (a b n : ℕ) (st st' st'' : List ℕ) → st'' ≡ b ∷ st' → st' ≡ a ∷ st → max a b + 1 ≡ n → over 2 0 st'' ≡ n ∷ st
two a b n st st' st'' e e' h =
    let y : suc (max a (max b 0)) ≡ n = omega (arith, h) in
    ap (over 2 0) (e ∙ ap (λ z. b ∷ z) e') ∙ ap (λ z. z ∷ st) y

three : (a b c n : ℕ) (st st' st'' st''' : List ℕ) → st''' ≡ c ∷ st'' → st'' ≡ b ∷ st' → st' ≡ a ∷ st → max b (max a c) + 1 ≡ n → over 3 0 st''' ≡ n ∷ st
three a b c n st st' st'' st''' e e' e'' h =
    let y : suc (max a (max b (max c 0))) ≡ n = omega (arith, h) in
    ap (over 3 0) (e ∙ ap (λ z. c ∷ z) (e' ∙ ap (λ z. b ∷ z) e'')) ∙ ap (λ z. z ∷ st) y

nests_text : {s r : Tokens} {u : _} (j : Joined s r u) (o : Steps) → nestings (emit_text j o) ≡ 1 ∷ nestings o
nests_text g.one_text o = refl
nests_text (g.next_text j) o = nests_text j o

mutual
  pub nests : {k : Level} {s r : Tokens} {e : Expression} (d : Spells k s r e) (o : Steps) → nestings (emit d o) ≡ nesting e ∷ nestings o
  nests g.a_name o = refl
  nests g.an_int o = refl
  nests (g.a_text j) o = nests_text j o
  nests g.a_none o = refl
  nests g.a_true o = refl
  nests g.a_false o = refl
  nests (g.a_group d) o = nests d o
  nests g.a_unit o = refl
  nests (g.a_list {es = es} i) o = ap (over (count es) 0) (nests_items i o) ∙ items_over es (nestings o) ∙ ap (λ z. z ∷ nestings o) (omega arith)
  nests (g.a_dict {ps = ps} i) o = ap (over (count_pairs ps + count_pairs ps) 0) (nests_entries i o) ∙ pairs_over ps (nestings o) ∙ ap (λ z. z ∷ nestings o) (omega arith)
  nests (g.an_attribute d) o = one _ _ _ _ (nests d o) (omega arith)
  nests (g.an_index d i) o = two _ _ _ _ _ _ (nests i (emit d o)) (nests d o) refl
  nests (g.a_call {e = a} {es = es} {ks = ks} d i h) o =
      ap (over (count_keywords ks + count_keywords ks + count es + 1) 0) (nests_arguments i (emit d o) ∙ ap (λ st. keyword_depths ks (depths es st)) (nests d o)) ∙ call_over a es ks (nestings o)
  nests (g.a_sign c d) o = one _ _ _ _ (nests d o) (omega arith)
  nests (g.a_primary d) o = nests d o
  nests (g.a_product c d i) o = two _ _ _ _ _ _ (nests i (emit d o)) (nests d o) refl
  nests (g.a_factor d) o = nests d o
  nests (g.a_sum c d i) o = two _ _ _ _ _ _ (nests i (emit d o)) (nests d o) refl
  nests (g.a_term d) o = nests d o
  nests (g.a_comparison c d i) o = two _ _ _ _ _ _ (nests i (emit d o)) (nests d o) refl
  nests (g.a_not_in d i) o = two _ _ _ _ _ _ (nests i (emit d o)) (nests d o) refl
  nests (g.an_is c d) o = one _ _ _ _ (nests d o) (omega arith)
  nests (g.an_is_not c d) o = one _ _ _ _ (nests d o) (omega arith)
  nests (g.uncompared d) o = nests d o
  nests (g.a_negation d) o = one _ _ _ _ (nests d o) (omega arith)
  nests (g.affirmed d) o = nests d o
  nests (g.a_conjunction d i) o = two _ _ _ _ _ _ (nests i (emit d o)) (nests d o) refl
  nests (g.a_conjunct d) o = nests d o
  nests (g.a_disjunction d i) o = two _ _ _ _ _ _ (nests i (emit d o)) (nests d o) refl
  nests (g.a_disjunct d) o = nests d o
  nests (g.a_conditional d i l) o = three _ _ _ _ _ _ _ _ (nests l (emit i (emit d o))) (nests i (emit d o)) (nests d o) refl
  nests (g.unconditional d) o = nests d o
  nests (g.a_tuple {e = e} {es = es} d i) o =
      ap (over (suc (count es)) 0) (nests_items i (emit d o) ∙ ap (depths es) (nests d o)) ∙ items_over (x.more_expressions e es) (nestings o) ∙ ap (λ z. z ∷ nestings o) (omega arith)
  nests (g.single d) o = nests d o

  nests_items : {s r : Tokens} {es : Expressions} (i : Items s r es) (o : Steps) → nestings (emit_items i o) ≡ depths es (nestings o)
  nests_items g.no_item o = refl
  nests_items (g.last_item d) o = nests d o
  nests_items (g.next_item {es = es} d i) o = nests_items i (emit d o) ∙ ap (depths es) (nests d o)

  nests_entries : {s r : Tokens} {ps : Pairs} (i : Entries s r ps) (o : Steps) → nestings (emit_entries i o) ≡ pair_depths ps (nestings o)
  nests_entries g.no_pair o = refl
  nests_entries (g.last_pair {v = v} d l) o = nests l (emit d o) ∙ ap (λ st. nesting v ∷ st) (nests d o)
  nests_entries (g.next_pair {v = v} {ps = ps} d l i) o = nests_entries i (emit l (emit d o)) ∙ ap (pair_depths ps) (nests l (emit d o) ∙ ap (λ st. nesting v ∷ st) (nests d o))

  nests_arguments : {s r : Tokens} {es : Expressions} {ks : Keywords} (i : Arguments s r es ks) (o : Steps) → nestings (emit_arguments i o) ≡ keyword_depths ks (depths es (nestings o))
  nests_arguments g.no_argument o = refl
  nests_arguments (g.last_argument d) o = nests d o
  nests_arguments (g.next_argument {es = es} {ks = ks} d i) o = nests_arguments i (emit d o) ∙ ap (λ st. keyword_depths ks (depths es st)) (nests d o)
  nests_arguments (g.only_keywords i) o = nests_keywords i o

  nests_keywords : {s r : Tokens} {ks : Keywords} (i : KeywordsAt s r ks) (o : Steps) → nestings (emit_keywords i o) ≡ keyword_depths ks (nestings o)
  nests_keywords g.no_keyword o = refl
  nests_keywords (g.last_keyword {n = n} d) o = nests d (m.PutName n ∷ o)
  nests_keywords (g.next_keyword {n = n} {ks = ks} d i) o = nests_keywords i (emit d (m.PutName n ∷ o)) ∙ ap (keyword_depths ks) (nests d (m.PutName n ∷ o))

-- ---- the loop over the parts

pub over_next : (n i d a : ℕ) (st : List ℕ) → i < n → top st ≡ Some a → over (n - i) d st ≡ over (n - (i + 1)) (max a d) (rest st)
over_next n i d a [] h e = absurd cc
over_next n i d a (b ∷ st) h e =
    let k : n - i ≡ suc (n - (i + 1)) = omega arith in
    let same : b ≡ a = cc in
    rw (k, same) refl

pub over_end : (n i d : ℕ) (st : List ℕ) → i < n → top st ≡ None → over (n - i) d st ≡ rest st
over_end n i d [] h e = let k : n - i ≡ suc (n - (i + 1)) = omega arith in rw k refl
over_end n i d (b ∷ st) h e = absurd cc
