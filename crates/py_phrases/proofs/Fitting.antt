-- The integer literals of a phrase fit where those among its tokens do, and so do the integers behind it.
use Rattle.std.proofs.Common.{◌≡◌, Bool, true, false, ◌&&◌, List, ◌∷◌, refl, sym, ◌∙◌, nat_le}
use Rattle.std.proofs.lemmas.Bool.{and_parts, and_from}
use Rattle.py_tree.specs.Syntax.{Text, Expression, Expressions, Pairs, Keywords, Target}
use Rattle.py_tree.specs.Literals.{greatest_int, fits, all_fit, pairs_fit, keywords_fit, target_fits}
use Rattle.py_tree.specs.declared.operator.UnaryOp.{UnaryOp}
use Rattle.py_tree.specs.declared.operator.BinaryOp.{BinaryOp}
use Rattle.py_tree.specs.declared.operator.CompareOp.{CompareOp}
use Rattle.py_tree.specs.declared.operator.Const.{Const}
use Rattle.py_lexer.specs.declared.token.Token.{Token}
use Rattle.py_lexer.specs.Literals.{tokens_fit}
use Rattle.py_phrases.specs.Grammar as g
use Rattle.py_phrases.specs.Grammar.{Tokens, Level, Spells, Items, Entries, Arguments, KeywordsAt, Joined, Sign, Product, Sum, Comparison, Constant}
use Rattle.py_phrases.specs.Targets as target
use Rattle.py_phrases.specs.Targets.{Many, Names, Place, Assigned}

grouped : (a b c : Bool) → (a && (b && c)) ≡ true → ((a && b) && c) ≡ true
grouped true b c h = h
grouped false b c h = h

-- ---- operators are no integers

past_sign : {c : Token} {op : UnaryOp} → Sign c op → (r : Tokens) → tokens_fit (c ∷ r) ≡ tokens_fit r
past_sign g.minus r = refl
past_sign g.plus r = refl

past_product : {c : Token} {op : BinaryOp} → Product c op → (r : Tokens) → tokens_fit (c ∷ r) ≡ tokens_fit r
past_product g.times r = refl
past_product g.floor_division r = refl
past_product g.remainder r = refl

past_sum : {c : Token} {op : BinaryOp} → Sum c op → (r : Tokens) → tokens_fit (c ∷ r) ≡ tokens_fit r
past_sum g.addition r = refl
past_sum g.subtraction r = refl

past_comparison : {c : Token} {op : CompareOp} → Comparison c op → (r : Tokens) → tokens_fit (c ∷ r) ≡ tokens_fit r
past_comparison g.equal r = refl
past_comparison g.unequal r = refl
past_comparison g.less r = refl
past_comparison g.less_or_equal r = refl
past_comparison g.greater r = refl
past_comparison g.greater_or_equal r = refl
past_comparison g.member r = refl

past_constant : {c : Token} {k : Const} → Constant c k → (r : Tokens) → tokens_fit (c ∷ r) ≡ tokens_fit r
past_constant g.is_none r = refl
past_constant g.is_true r = refl
past_constant g.is_false r = refl

-- ---- phrases

past_texts : {s r : Tokens} {u : Text} → Joined s r u → tokens_fit s ≡ true → tokens_fit r ≡ true
past_texts g.one_text h = h
past_texts (g.next_text j) h = past_texts j h

-- what is read fits, and what is behind it
abbrev pub Fit : Bool → Tokens → Type 0
Fit read r = (read ≡ true) × (tokens_fit r ≡ true)

mutual
  pub phrase_fits : {k : Level} {s r : Tokens} {e : Expression} → Spells k s r e → tokens_fit s ≡ true → Fit (fits e) r
  phrase_fits g.a_name h = (refl, h)
  phrase_fits (g.an_int {n = n} {r = r}) h = and_parts (nat_le n greatest_int) (tokens_fit r) h
  phrase_fits (g.a_text j) h = (refl, past_texts j h)
  phrase_fits g.a_none h = (refl, h)
  phrase_fits g.a_true h = (refl, h)
  phrase_fits g.a_false h = (refl, h)
  phrase_fits (g.a_group d) h = phrase_fits d h
  phrase_fits g.a_unit h = (refl, h)
  phrase_fits (g.a_list i) h = items_fit i h
  phrase_fits (g.a_dict i) h = entries_fit i h
  phrase_fits (g.an_attribute d) h = phrase_fits d h
  phrase_fits (g.an_index {e = e} {i = i} d l) h = let y = phrase_fits d h in let z = phrase_fits l y.1 in (and_from (fits e) (fits i) y.0 z.0, z.1)
  phrase_fits (g.a_call {e = e} {es = es} {ks = ks} d i once) h = let y = phrase_fits d h in let z = arguments_fit i y.1 in (and_from (fits e) (all_fit es && keywords_fit ks) y.0 z.0, z.1)
  phrase_fits (g.a_sign {s = s} c d) h = phrase_fits d (sym (past_sign c s) ∙ h)
  phrase_fits (g.a_primary d) h = phrase_fits d h
  phrase_fits (g.a_product {m = m} {a = a} {b = b} c d i) h = let y = phrase_fits d h in let z = phrase_fits i (sym (past_product c m) ∙ y.1) in (and_from (fits a) (fits b) y.0 z.0, z.1)
  phrase_fits (g.a_factor d) h = phrase_fits d h
  phrase_fits (g.a_sum {m = m} {a = a} {b = b} c d i) h = let y = phrase_fits d h in let z = phrase_fits i (sym (past_sum c m) ∙ y.1) in (and_from (fits a) (fits b) y.0 z.0, z.1)
  phrase_fits (g.a_term d) h = phrase_fits d h
  phrase_fits (g.a_comparison {m = m} {a = a} {b = b} c d i) h = let y = phrase_fits d h in let z = phrase_fits i (sym (past_comparison c m) ∙ y.1) in (and_from (fits a) (fits b) y.0 z.0, z.1)
  phrase_fits (g.a_not_in {a = a} {b = b} d i) h = let y = phrase_fits d h in let z = phrase_fits i y.1 in (and_from (fits a) (fits b) y.0 z.0, z.1)
  phrase_fits (g.an_is {r = r} c d) h = let y = phrase_fits d h in (y.0, sym (past_constant c r) ∙ y.1)
  phrase_fits (g.an_is_not {r = r} c d) h = let y = phrase_fits d h in (y.0, sym (past_constant c r) ∙ y.1)
  phrase_fits (g.uncompared d) h = phrase_fits d h
  phrase_fits (g.a_negation d) h = phrase_fits d h
  phrase_fits (g.affirmed d) h = phrase_fits d h
  phrase_fits (g.a_conjunction {a = a} {b = b} d i) h = let y = phrase_fits d h in let z = phrase_fits i y.1 in (and_from (fits a) (fits b) y.0 z.0, z.1)
  phrase_fits (g.a_conjunct d) h = phrase_fits d h
  phrase_fits (g.a_disjunction {a = a} {b = b} d i) h = let y = phrase_fits d h in let z = phrase_fits i y.1 in (and_from (fits a) (fits b) y.0 z.0, z.1)
  phrase_fits (g.a_disjunct d) h = phrase_fits d h
  phrase_fits (g.a_conditional {a = a} {b = b} {c = c} d i l) h =
      let x = phrase_fits d h in let y = phrase_fits i x.1 in let z = phrase_fits l y.1 in
      (and_from (fits b) (fits a && fits c) y.0 (and_from (fits a) (fits c) x.0 z.0), z.1)
  phrase_fits (g.unconditional d) h = phrase_fits d h
  phrase_fits (g.a_tuple {e = e} {es = es} d i) h = let y = phrase_fits d h in let z = items_fit i y.1 in (and_from (fits e) (all_fit es) y.0 z.0, z.1)
  phrase_fits (g.single d) h = phrase_fits d h

  pub items_fit : {s r : Tokens} {es : Expressions} → Items s r es → tokens_fit s ≡ true → Fit (all_fit es) r
  items_fit g.no_item h = (refl, h)
  items_fit (g.last_item {e = e} d) h = let y = phrase_fits d h in (and_from (fits e) true y.0 refl, y.1)
  items_fit (g.next_item {e = e} {es = es} d i) h = let y = phrase_fits d h in let z = items_fit i y.1 in (and_from (fits e) (all_fit es) y.0 z.0, z.1)

  pub entries_fit : {s r : Tokens} {ps : Pairs} → Entries s r ps → tokens_fit s ≡ true → Fit (pairs_fit ps) r
  entries_fit g.no_pair h = (refl, h)
  entries_fit (g.last_pair {k = k} {v = v} d l) h = let y = phrase_fits d h in let z = phrase_fits l y.1 in (and_from (fits k && fits v) true (and_from (fits k) (fits v) y.0 z.0) refl, z.1)
  entries_fit (g.next_pair {k = k} {v = v} {ps = ps} d l i) h =
      let x = phrase_fits d h in let y = phrase_fits l x.1 in let z = entries_fit i y.1 in (and_from (fits k && fits v) (pairs_fit ps) (and_from (fits k) (fits v) x.0 y.0) z.0, z.1)

  pub arguments_fit : {s r : Tokens} {es : Expressions} {ks : Keywords} → Arguments s r es ks → tokens_fit s ≡ true → Fit (all_fit es && keywords_fit ks) r
  arguments_fit g.no_argument h = (refl, h)
  arguments_fit (g.last_argument {e = e} d) h = let y = phrase_fits d h in (and_from (fits e && true) true (and_from (fits e) true y.0 refl) refl, y.1)
  arguments_fit (g.next_argument {e = e} {es = es} {ks = ks} d i) h =
      let y = phrase_fits d h in let z = arguments_fit i y.1 in (grouped (fits e) (all_fit es) (keywords_fit ks) (and_from (fits e) (all_fit es && keywords_fit ks) y.0 z.0), z.1)
  arguments_fit (g.only_keywords i) h = named_fit i h

  pub named_fit : {s r : Tokens} {ks : Keywords} → KeywordsAt s r ks → tokens_fit s ≡ true → Fit (keywords_fit ks) r
  named_fit g.no_keyword h = (refl, h)
  named_fit (g.last_keyword {e = e} d) h = let y = phrase_fits d h in (and_from (fits e) true y.0 refl, y.1)
  named_fit (g.next_keyword {e = e} {ks = ks} d i) h = let y = phrase_fits d h in let z = named_fit i y.1 in (and_from (fits e) (keywords_fit ks) y.0 z.0, z.1)

-- ---- targets

pub many_fit : {s r : Tokens} {names : List Text} → Many s r names → tokens_fit s ≡ true → tokens_fit r ≡ true
many_fit target.two_names h = h
many_fit target.two_names_and_comma h = h
many_fit (target.another_name m) h = many_fit m h

pub names_fit : {s r : Tokens} {t : Target} → Names s r t → tokens_fit s ≡ true → Fit (target_fits t) r
names_fit target.one_name h = (refl, h)
names_fit (target.many_names m) h = (refl, many_fit m h)
names_fit (target.names_in_parentheses m) h = (refl, many_fit m h)

pub place_fits : {s r : Tokens} {t : Target} → Place s r t → tokens_fit s ≡ true → Fit (target_fits t) r
place_fits target.to_name h = (refl, h)
place_fits (target.to_attribute d) h = phrase_fits d h
place_fits (target.to_index {e = e} {i = i} d l) h = let y = phrase_fits d h in let z = phrase_fits l y.1 in (and_from (fits e) (fits i) y.0 z.0, z.1)

pub assigned_fits : {s r : Tokens} {t : Target} → Assigned s r t → tokens_fit s ≡ true → Fit (target_fits t) r
assigned_fits (target.to_place p) h = place_fits p h
assigned_fits (target.to_names m) h = (refl, many_fit m h)
assigned_fits (target.to_names_in_parentheses m) h = (refl, many_fit m h)
