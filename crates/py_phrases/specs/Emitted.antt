-- No definition of the language: the steps of a phrase, and what steps build.
use Rattle.std.specs.Prelude.{ℕ, zero, suc, ◌+◌, max, true, false, List, [], ◌∷◌, ◌++◌, Option, Some, None}
use Rattle.py_tree.specs.Syntax as x
use Rattle.py_tree.specs.Syntax.{Text, Expression, Expressions, Pairs, Keywords}
use Rattle.py_tree.specs.declared.operator.Const.{Const}
use Rattle.py_tree.specs.declared.operator.Const.TheVariants as constant
use Rattle.py_tree.specs.declared.operator.CompareOp.TheVariants as compare
use Rattle.py_phrases.specs.Grammar as g
use Rattle.py_phrases.specs.Grammar.{Tokens, Level, Spells, Joined, Items, Entries, Arguments, KeywordsAt}
use Rattle.py_phrases.specs.Machine as m
use Rattle.py_phrases.specs.Machine.{Step, Steps}

abbrev pub count : Expressions → ℕ
count x.end_of_expressions = 0
count (x.more_expressions e es) = suc (count es)

abbrev pub count_pairs : Pairs → ℕ
count_pairs x.end_of_pairs = 0
count_pairs (x.more_pairs p ps) = suc (count_pairs ps)

abbrev pub count_keywords : Keywords → ℕ
count_keywords x.end_of_keywords = 0
count_keywords (x.more_keywords k ks) = suc (count_keywords ks)

abbrev pub emit_text : {s r : Tokens} {u : Text} → Joined s r u → Steps → Steps
emit_text (g.one_text {u = u}) o = m.PutText u ∷ o
emit_text (g.next_text {v = v} j) o = m.JoinText v ∷ emit_text j o

-- the steps of a phrase, newest first, on those before
abbrev mutual
  pub emit : {k : Level} {s r : Tokens} {e : Expression} → Spells k s r e → Steps → Steps
  emit (g.a_name {n = n}) o = m.PutName n ∷ o
  emit (g.an_int {n = n}) o = m.PutInt n ∷ o
  emit (g.a_text j) o = emit_text j o
  emit g.a_none o = m.PutConstant constant.Nil ∷ o
  emit g.a_true o = m.PutConstant constant.True ∷ o
  emit g.a_false o = m.PutConstant constant.False ∷ o
  emit (g.a_group d) o = m.Grouped ∷ emit d o
  emit g.a_unit o = m.MakeTuple 0 ∷ o
  emit (g.a_list {es = es} i) o = m.MakeList (count es) ∷ emit_items i o
  emit (g.a_dict {ps = ps} i) o = m.MakeDict (count_pairs ps) ∷ emit_entries i o
  emit (g.an_attribute {n = n} d) o = m.MakeAttr n ∷ emit d o
  emit (g.an_index d i) o = m.MakeIndex ∷ emit i (emit d o)
  emit (g.a_call {es = es} {ks = ks} d i h) o = m.MakeCall (count es) (count_keywords ks) ∷ emit_arguments i (emit d o)
  emit (g.a_sign {op = op} c d) o = m.MakeUnary op ∷ emit d o
  emit (g.a_primary d) o = emit d o
  emit (g.a_product {op = op} c d i) o = m.MakeBinary op ∷ emit i (emit d o)
  emit (g.a_factor d) o = emit d o
  emit (g.a_sum {op = op} c d i) o = m.MakeBinary op ∷ emit i (emit d o)
  emit (g.a_term d) o = emit d o
  emit (g.a_comparison {op = op} c d i) o = m.MakeCompare op ∷ emit i (emit d o)
  emit (g.a_not_in d i) o = m.MakeCompare compare.NotIn ∷ emit i (emit d o)
  emit (g.an_is {k = k} c d) o = m.MakeIs false k ∷ emit d o
  emit (g.an_is_not {k = k} c d) o = m.MakeIs true k ∷ emit d o
  emit (g.uncompared d) o = emit d o
  emit (g.a_negation d) o = m.MakeNot ∷ emit d o
  emit (g.affirmed d) o = emit d o
  emit (g.a_conjunction d i) o = m.MakeAnd ∷ emit i (emit d o)
  emit (g.a_conjunct d) o = emit d o
  emit (g.a_disjunction d i) o = m.MakeOr ∷ emit i (emit d o)
  emit (g.a_disjunct d) o = emit d o
  emit (g.a_conditional d i j) o = m.MakeCond ∷ emit j (emit i (emit d o))
  emit (g.unconditional d) o = emit d o
  emit (g.a_tuple {es = es} d i) o = m.MakeTuple (suc (count es)) ∷ emit_items i (emit d o)
  emit (g.single d) o = emit d o

  pub emit_items : {s r : Tokens} {es : Expressions} → Items s r es → Steps → Steps
  emit_items g.no_item o = o
  emit_items (g.last_item d) o = emit d o
  emit_items (g.next_item d i) o = emit_items i (emit d o)

  pub emit_entries : {s r : Tokens} {ps : Pairs} → Entries s r ps → Steps → Steps
  emit_entries g.no_pair o = o
  emit_entries (g.last_pair d e) o = emit e (emit d o)
  emit_entries (g.next_pair d e i) o = emit_entries i (emit e (emit d o))

  pub emit_arguments : {s r : Tokens} {es : Expressions} {ks : Keywords} → Arguments s r es ks → Steps → Steps
  emit_arguments g.no_argument o = o
  emit_arguments (g.last_argument d) o = emit d o
  emit_arguments (g.next_argument d i) o = emit_arguments i (emit d o)
  emit_arguments (g.only_keywords i) o = emit_keywords i o

  pub emit_keywords : {s r : Tokens} {ks : Keywords} → KeywordsAt s r ks → Steps → Steps
  emit_keywords g.no_keyword o = o
  emit_keywords (g.last_keyword {n = n} d) o = emit d (m.PutName n ∷ o)
  emit_keywords (g.next_keyword {n = n} d i) o = emit_keywords i (emit d (m.PutName n ∷ o))

-- ---- what steps build, on a stack of trees

abbrev pub constant_tree : Const → Expression
constant_tree constant.Nil = x.Nil
constant_tree constant.True = x.True
constant_tree constant.False = x.False

abbrev pub join_text : Text → Expression → Expression
join_text v (x.Str u) = x.Str (u ++ v)
join_text v e = e

abbrev pub on_one : (Expression → Expression) → List Expression → List Expression
on_one make (a ∷ st) = make a ∷ st
on_one make [] = []

abbrev pub on_two : (Expression → Expression → Expression) → List Expression → List Expression
on_two make (b ∷ a ∷ st) = make a b ∷ st
on_two make _ = []

abbrev pub on_three : (Expression → Expression → Expression → Expression) → List Expression → List Expression
on_three make (c ∷ b ∷ a ∷ st) = make a b c ∷ st
on_three make _ = []

-- items taken off the stack, and what is left
pub record Taken : Type 0 where
  pub items : Expressions
  pub left : List Expression

abbrev pub take_items : ℕ → Expressions → List Expression → Option Taken
take_items zero es st = Some (record { items = es; left = st })
take_items (suc n) es (a ∷ st) = take_items n (x.more_expressions a es) st
take_items (suc n) es [] = None

abbrev pub put_items : (Expressions → Expression) → Option Taken → List Expression
put_items make None = []
put_items make (Some t) = make t.items ∷ t.left

pub record TakenPairs : Type 0 where
  pub items : Pairs
  pub left : List Expression

abbrev pub take_pairs : ℕ → Pairs → List Expression → Option TakenPairs
take_pairs zero ps st = Some (record { items = ps; left = st })
take_pairs (suc n) ps (v ∷ k ∷ st) = take_pairs n (x.more_pairs (x.Paired k v) ps) st
take_pairs (suc n) ps _ = None

abbrev pub put_pairs : Option TakenPairs → List Expression
put_pairs None = []
put_pairs (Some t) = x.Dict t.items ∷ t.left

abbrev pub name_in : Expression → Text
name_in (x.Name n) = n
name_in e = []

pub record TakenKeywords : Type 0 where
  pub items : Keywords
  pub left : List Expression

abbrev pub take_keywords : ℕ → Keywords → List Expression → Option TakenKeywords
take_keywords zero ks st = Some (record { items = ks; left = st })
take_keywords (suc k) ks (v ∷ a ∷ st) = take_keywords k (x.more_keywords (x.Named (name_in a) v) ks) st
take_keywords (suc k) ks _ = None

abbrev pub put_call : Keywords → Option Taken → List Expression
put_call ks None = []
put_call ks (Some t) = on_one (λ a. x.Call a t.items ks) t.left

abbrev pub on_call : ℕ → Option TakenKeywords → List Expression
on_call n None = []
on_call n (Some t) = put_call t.items (take_items n x.end_of_expressions t.left)

abbrev pub grow : Step → List Expression → List Expression
grow (m.PutName n) st = x.Name n ∷ st
grow (m.PutInt n) st = x.Int n ∷ st
grow (m.PutText u) st = x.Str u ∷ st
grow (m.JoinText v) st = on_one (join_text v) st
grow (m.PutConstant k) st = constant_tree k ∷ st
grow m.Grouped st = st
grow (m.MakeTuple n) st = put_items x.Tuple (take_items n x.end_of_expressions st)
grow (m.MakeList n) st = put_items x.Listed (take_items n x.end_of_expressions st)
grow (m.MakeDict n) st = put_pairs (take_pairs n x.end_of_pairs st)
grow (m.MakeUnary op) st = on_one (x.Unary op) st
grow (m.MakeBinary op) st = on_two (x.Binary op) st
grow (m.MakeCompare op) st = on_two (x.Compare op) st
grow (m.MakeIs negated k) st = on_one (λ e. x.Is negated e k) st
grow m.MakeNot st = on_one x.Not st
grow m.MakeAnd st = on_two x.And st
grow m.MakeOr st = on_two x.Or st
grow m.MakeCond st = on_three (λ a b c. x.Cond b a c) st
grow (m.MakeAttr n) st = on_one (λ e. x.Attr e n) st
grow m.MakeIndex st = on_two x.Index st
grow (m.MakeCall n k) st = on_call n (take_keywords k x.end_of_keywords st)

-- of steps, newest first
abbrev pub trees : Steps → List Expression
trees [] = []
trees (s ∷ o) = grow s (trees o)

-- ---- the nestings of what steps build

-- the number of trees that a step puts under one; none where it puts no node
abbrev pub parts : Step → Option ℕ
parts (m.JoinText v) = None
parts m.Grouped = None
parts (m.MakeTuple n) = Some n
parts (m.MakeList n) = Some n
parts (m.MakeDict n) = Some (n + n)
parts (m.MakeUnary op) = Some 1
parts (m.MakeBinary op) = Some 2
parts (m.MakeCompare op) = Some 2
parts (m.MakeIs negated k) = Some 1
parts m.MakeNot = Some 1
parts m.MakeAnd = Some 2
parts m.MakeOr = Some 2
parts m.MakeCond = Some 3
parts (m.MakeAttr n) = Some 1
parts m.MakeIndex = Some 2
parts (m.MakeCall n k) = Some (k + k + n + 1)
parts _ = Some 0

abbrev pub over : ℕ → ℕ → List ℕ → List ℕ
over zero deepest st = suc deepest ∷ st
over (suc n) deepest (a ∷ st) = over n (max a deepest) st
over (suc n) deepest [] = []

abbrev pub nest : Option ℕ → List ℕ → List ℕ
nest None st = st
nest (Some n) st = over n 0 st

abbrev pub nestings : Steps → List ℕ
nestings [] = []
nestings (s ∷ o) = nest (parts s) (nestings o)
