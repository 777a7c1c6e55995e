-- The steps of a phrase build its tree. So there is one phrase at a front.
use Rattle.std.proofs.Common.{◌≡◌, ℕ, suc, ◌+◌, List, [], ◌∷◌, Some, refl, sym, ap, ◌∙◌, arith}
use Rattle.py_tree.specs.Syntax as x
use Rattle.py_tree.specs.Syntax.{Text, Expression, Expressions, Pairs, Keywords}
use Rattle.py_phrases.specs.Grammar as g
use Rattle.py_phrases.specs.Grammar.{Tokens, Level, Spells, Joined, Items, Entries, Arguments, KeywordsAt}
use Rattle.py_phrases.specs.Ends.{IsEnd}
use Rattle.py_phrases.specs.Machine as m
use Rattle.py_phrases.specs.Machine.{Step, Steps, Read, read, read_to}
use Rattle.py_phrases.specs.Emitted.{count, count_pairs, count_keywords, emit, emit_text, emit_items, emit_entries, emit_arguments, emit_keywords, join_text, on_one, on_two, on_three, Taken, take_items, put_items, TakenPairs, take_pairs, put_pairs, TakenKeywords, take_keywords, put_call, on_call, trees}
use Rattle.py_phrases.proofs.Complete.{is_read}

-- ---- lists, the first deepest on the stack

abbrev join : Expressions → Expressions → Expressions
join x.end_of_expressions fs = fs
join (x.more_expressions e es) fs = x.more_expressions e (join es fs)

join_end : (es : Expressions) → join es x.end_of_expressions ≡ es
join_end x.end_of_expressions = refl
join_end (x.more_expressions e es) = ap (x.more_expressions e) (join_end es)

abbrev join_pairs : Pairs → Pairs → Pairs
join_pairs x.end_of_pairs qs = qs
join_pairs (x.more_pairs p ps) qs = x.more_pairs p (join_pairs ps qs)

join_pairs_end : (ps : Pairs) → join_pairs ps x.end_of_pairs ≡ ps
join_pairs_end x.end_of_pairs = refl
join_pairs_end (x.more_pairs p ps) = ap (x.more_pairs p) (join_pairs_end ps)

abbrev join_keywords : Keywords → Keywords → Keywords
join_keywords x.end_of_keywords ls = ls
join_keywords (x.more_keywords k ks) ls = x.more_keywords k (join_keywords ks ls)

join_keywords_end : (ks : Keywords) → join_keywords ks x.end_of_keywords ≡ ks
join_keywords_end x.end_of_keywords = refl
join_keywords_end (x.more_keywords k ks) = ap (x.more_keywords k) (join_keywords_end ks)

abbrev onto : Expressions → List Expression → List Expression
onto x.end_of_expressions st = st
onto (x.more_expressions e es) st = onto es (e ∷ st)

abbrev pairs_onto : Pairs → List Expression → List Expression
pairs_onto x.end_of_pairs st = st
pairs_onto (x.more_pairs (x.Paired k v) ps) st = pairs_onto ps (v ∷ k ∷ st)

abbrev keywords_onto : Keywords → List Expression → List Expression
keywords_onto x.end_of_keywords st = st
keywords_onto (x.more_keywords (x.Named n v) ks) st = keywords_onto ks (v ∷ x.Name n ∷ st)

items_on : (es fs : Expressions) (n : ℕ) (st : List Expression) → take_items (count es + n) fs (onto es st) ≡ take_items n (join es fs) st
items_on x.end_of_expressions fs n st = ap (λ k. take_items k fs st) (omega arith)
items_on (x.more_expressions e es) fs n st = let k : suc (count es) + n ≡ count es + suc n = omega arith in rw k (items_on es fs (suc n) (e ∷ st))

pairs_on : (ps qs : Pairs) (n : ℕ) (st : List Expression) → take_pairs (count_pairs ps + n) qs (pairs_onto ps st) ≡ take_pairs n (join_pairs ps qs) st
pairs_on x.end_of_pairs qs n st = ap (λ k. take_pairs k qs st) (omega arith)
pairs_on (x.more_pairs (x.Paired a b) ps) qs n st = let k : suc (count_pairs ps) + n ≡ count_pairs ps + suc n = omega arith in rw k (pairs_on ps qs (suc n) (b ∷ a ∷ st))

keywords_on : (ks ls : Keywords) (k : ℕ) (st : List Expression) → take_keywords (count_keywords ks + k) ls (keywords_onto ks st) ≡ take_keywords k (join_keywords ks ls) st
keywords_on x.end_of_keywords ls k st = ap (λ j. take_keywords j ls st) (omega arith)
keywords_on (x.more_keywords (x.Named a b) ks) ls k st = let j : suc (count_keywords ks) + k ≡ count_keywords ks + suc k = omega arith in rw j (keywords_on ks ls (suc k) (b ∷ x.Name a ∷ st))

items_are : (es : Expressions) (st : List Expression) → take_items (count es) x.end_of_expressions (onto es st) ≡ Some (record { items = es; left = st })
items_are es st =
    let k : count es + 0 ≡ count es = omega arith in
    (rw k at (items_on es x.end_of_expressions 0 st)) ∙ ap (λ y. Some (taken y st)) (join_end es)
  where
    taken : Expressions → List Expression → Taken
    taken es st = record { items = es; left = st }

pairs_are : (ps : Pairs) (st : List Expression) → take_pairs (count_pairs ps) x.end_of_pairs (pairs_onto ps st) ≡ Some (record { items = ps; left = st })
pairs_are ps st =
    let k : count_pairs ps + 0 ≡ count_pairs ps = omega arith in
    (rw k at (pairs_on ps x.end_of_pairs 0 st)) ∙ ap (λ y. Some (taken y st)) (join_pairs_end ps)
  where
    taken : Pairs → List Expression → TakenPairs
    taken ps st = record { items = ps; left = st }

keywords_are : (ks : Keywords) (st : List Expression) → take_keywords (count_keywords ks) x.end_of_keywords (keywords_onto ks st) ≡ Some (record { items = ks; left = st })
keywords_are ks st =
    let k : count_keywords ks + 0 ≡ count_keywords ks = omega arith in
    (rw k at (keywords_on ks x.end_of_keywords 0 st)) ∙ ap (λ y. Some (taken y st)) (join_keywords_end ks)
  where
    taken : Keywords → List Expression → TakenKeywords
    taken ks st = record { items = ks; left = st }

call_is : (a : Expression) (es : Expressions) (ks : Keywords) (st : List Expression) → on_call (count es) (take_keywords (count_keywords ks) x.end_of_keywords (keywords_onto ks (onto es (a ∷ st)))) ≡ x.Call a es ks ∷ st
call_is a es ks st = ap (on_call (count es)) (keywords_are ks (onto es (a ∷ st))) ∙ ap (put_call ks) (items_are es (a ∷ st))

-- ---- the trees

grows_text : {s r : Tokens} {u : Text} (j : Joined s r u) (o : Steps) → trees (emit_text j o) ≡ x.Str u ∷ trees o
grows_text g.one_text o = refl
grows_text (g.next_text {v = v} j) o = ap (on_one (join_text v)) (grows_text j o)

two : (make : Expression → Expression → Expression) (a b : Expression) (o o' o'' : List Expression) → o'' ≡ b ∷ o' → o' ≡ a ∷ o → on_two make o'' ≡ make a b ∷ o
two make a b o o' o'' e d = ap (on_two make) (e ∙ ap (λ st. b ∷ st) d)

mutual
  pub grows : {k : Level} {s r : Tokens} {e : Expression} (d : Spells k s r e) (o : Steps) → trees (emit d o) ≡ e ∷ trees o
  grows g.a_name o = refl
  grows g.an_int o = refl
  grows (g.a_text j) o = grows_text j o
  grows g.a_none o = refl
  grows g.a_true o = refl
  grows g.a_false o = refl
  grows (g.a_group d) o = grows d o
  grows g.a_unit o = refl
  grows (g.a_list {es = es} i) o = ap (λ st. put_items x.Listed (take_items (count es) x.end_of_expressions st)) (grows_items i o) ∙ ap (put_items x.Listed) (items_are es (trees o))
  grows (g.a_dict {ps = ps} i) o = ap (λ st. put_pairs (take_pairs (count_pairs ps) x.end_of_pairs st)) (grows_entries i o) ∙ ap put_pairs (pairs_are ps (trees o))
  grows (g.an_attribute {n = n} d) o = ap (on_one (λ e. x.Attr e n)) (grows d o)
  grows (g.an_index d i) o = two x.Index _ _ _ _ _ (grows i (emit d o)) (grows d o)
  grows (g.a_call {e = a} {es = es} {ks = ks} d i h) o =
      ap (λ st. on_call (count es) (take_keywords (count_keywords ks) x.end_of_keywords st)) (grows_arguments i (emit d o) ∙ ap (λ st. keywords_onto ks (onto es st)) (grows d o)) ∙ call_is a es ks (trees o)
  grows (g.a_sign {op = op} c d) o = ap (on_one (x.Unary op)) (grows d o)
  grows (g.a_primary d) o = grows d o
  grows (g.a_product {op = op} c d i) o = two (x.Binary op) _ _ _ _ _ (grows i (emit d o)) (grows d o)
  grows (g.a_factor d) o = grows d o
  grows (g.a_sum {op = op} c d i) o = two (x.Binary op) _ _ _ _ _ (grows i (emit d o)) (grows d o)
  grows (g.a_term d) o = grows d o
  grows (g.a_comparison {op = op} c d i) o = two (x.Compare op) _ _ _ _ _ (grows i (emit d o)) (grows d o)
  grows (g.a_not_in d i) o = two (x.Compare _) _ _ _ _ _ (grows i (emit d o)) (grows d o)
  grows (g.an_is {k = k} c d) o = ap (on_one (λ e. x.Is _ e k)) (grows d o)
  grows (g.an_is_not {k = k} c d) o = ap (on_one (λ e. x.Is _ e k)) (grows d o)
  grows (g.uncompared d) o = grows d o
  grows (g.a_negation d) o = ap (on_one x.Not) (grows d o)
  grows (g.affirmed d) o = grows d o
  grows (g.a_conjunction d i) o = two x.And _ _ _ _ _ (grows i (emit d o)) (grows d o)
  grows (g.a_conjunct d) o = grows d o
  grows (g.a_disjunction d i) o = two x.Or _ _ _ _ _ (grows i (emit d o)) (grows d o)
  grows (g.a_disjunct d) o = grows d o
  grows (g.a_conditional {a = a} {b = b} {c = c} d i l) o =
      ap (on_three (λ a b c. x.Cond b a c)) (grows l (emit i (emit d o)) ∙ ap (λ st. c ∷ st) (grows i (emit d o) ∙ ap (λ st. b ∷ st) (grows d o)))
  grows (g.unconditional d) o = grows d o
  grows (g.a_tuple {e = e} {es = es} d i) o =
      ap (λ st. put_items x.Tuple (take_items (suc (count es)) x.end_of_expressions st)) (grows_items i (emit d o) ∙ ap (onto es) (grows d o)) ∙ ap (put_items x.Tuple) (items_are (x.more_expressions e es) (trees o))
  grows (g.single d) o = grows d o

  grows_items : {s r : Tokens} {es : Expressions} (i : Items s r es) (o : Steps) → trees (emit_items i o) ≡ onto es (trees o)
  grows_items g.no_item o = refl
  grows_items (g.last_item d) o = grows d o
  grows_items (g.next_item {es = es} d i) o = grows_items i (emit d o) ∙ ap (onto es) (grows d o)

  grows_entries : {s r : Tokens} {ps : Pairs} (i : Entries s r ps) (o : Steps) → trees (emit_entries i o) ≡ pairs_onto ps (trees o)
  grows_entries g.no_pair o = refl
  grows_entries (g.last_pair {v = v} d l) o = grows l (emit d o) ∙ ap (λ st. v ∷ st) (grows d o)
  grows_entries (g.next_pair {v = v} {ps = ps} d l i) o = grows_entries i (emit l (emit d o)) ∙ ap (pairs_onto ps) (grows l (emit d o) ∙ ap (λ st. v ∷ st) (grows d o))

  grows_arguments : {s r : Tokens} {es : Expressions} {ks : Keywords} (i : Arguments s r es ks) (o : Steps) → trees (emit_arguments i o) ≡ keywords_onto ks (onto es (trees o))
  grows_arguments g.no_argument o = refl
  grows_arguments (g.last_argument d) o = grows d o
  grows_arguments (g.next_argument {es = es} {ks = ks} d i) o = grows_arguments i (emit d o) ∙ ap (λ st. keywords_onto ks (onto es st)) (grows d o)
  grows_arguments (g.only_keywords i) o = grows_keywords i o

  grows_keywords : {s r : Tokens} {ks : Keywords} (i : KeywordsAt s r ks) (o : Steps) → trees (emit_keywords i o) ≡ keywords_onto ks (trees o)
  grows_keywords g.no_keyword o = refl
  grows_keywords (g.last_keyword {n = n} d) o = grows d (m.PutName n ∷ o)
  grows_keywords (g.next_keyword {n = n} {ks = ks} d i) o = grows_keywords i (emit d (m.PutName n ∷ o)) ∙ ap (keywords_onto ks) (grows d (m.PutName n ∷ o))

-- ---- one phrase at a front

pub record Same (d e : Expression) (r q : Tokens) : Type 0 where
  pub tree : d ≡ e
  pub rest : r ≡ q

pub one_front : {k : Level} {s r q : Tokens} {d e : Expression} → Spells k s r d → IsEnd k r → Spells k s q e → IsEnd k q → Same d e r q
one_front {k = k} {s = s} {r = r} {q = q} {d = d} {e = e} y h z h' =
    let left : Read = read_to (emit y []) r in
    let right : Read = read_to (emit z []) q in
    let both : Some left ≡ Some right = sym (is_read y h) ∙ is_read z h' in
    let same : left ≡ right = cc in
    let trees_are : d ∷ [] ≡ e ∷ [] = sym (grows y []) ∙ ap (λ (w : Read). trees w.steps) same ∙ grows z [] in
    record { tree = cc; rest = ap (λ (w : Read). w.rest) same }
