-- At most one form stands for the tokens of a line, if at most one phrase stands at a front.
use Rattle.std.proofs.Common.{◌≡◌, List, [], ◌∷◌, Option, Some, None, refl, sym, ap, subst}
use Rattle.py_tree.specs.Syntax as syntax
use Rattle.py_tree.specs.Syntax.{Text, Expression, Param, Target, Kind}
use Rattle.py_tree.specs.declared.statement.Import.{Import}
use Rattle.py_tree.specs.declared.operator.BinaryOp.{BinaryOp}
use Rattle.py_lexer.specs.declared.token.Token.{Token}
use Rattle.py_lexer.specs.declared.token.Token.TheVariants as token
use Rattle.py_lexer.specs.declared.token.Keyword.TheVariants as word
use Rattle.py_lexer.specs.declared.token.Mark.TheVariants as mark
use Rattle.py_phrases.specs.Tokens as t
use Rattle.py_phrases.specs.Grammar as g
use Rattle.py_phrases.specs.Grammar.{Tokens, Level, E, L, Spells}
use Rattle.py_phrases.specs.Ends.{IsEnd}
use Rattle.py_expr.specs.Lines as l
use Rattle.py_expr.specs.Lines.{Augmented, Annotation, Default, Parameter, Parameters, Result, Base, HeadAt, Item, ImportItems, Taken, Value, Simple, Line}
use Rattle.py_expr.specs.LineEnds.{EndsNames, EndsParameter, EndsAnnotation, EndsItem, EndsItems}
use Rattle.py_expr.specs.Readings.{Same}
use Rattle.py_expr.specs.Forms as form
use Rattle.py_phrases.proofs.TargetPhrases.{names_listed, as_phrase, primary_is, place_is, assigned_is}
use Rattle.py_expr.specs.Forms.{Form, Head}
use Rattle.py_phrases.specs.Targets as target
use Rattle.py_phrases.specs.Targets.{Many, Names, Place, Assigned}

-- what one_front says of phrases
abbrev pub OneFront : Type 0
OneFront = (k : Level) (s r q : Tokens) (d e : Expression) → Spells k s r d → IsEnd k r → Spells k s q e → IsEnd k q → Same d e r q

-- what is behind the first token
abbrev pub behind : Tokens → Tokens
behind [] = []
behind (c ∷ r) = r

-- ---- what an expression begins with

abbrev pub CanBegin : Tokens → Type 0
CanBegin (token.Name n ∷ r) = Unit {0}
CanBegin (token.Int n ∷ r) = Unit {0}
CanBegin (token.Str u ∷ r) = Unit {0}
CanBegin (token.Word word.None ∷ r) = Unit {0}
CanBegin (token.Word word.True ∷ r) = Unit {0}
CanBegin (token.Word word.False ∷ r) = Unit {0}
CanBegin (token.Word word.Not ∷ r) = Unit {0}
CanBegin (token.Mark mark.Minus ∷ r) = Unit {0}
CanBegin (token.Mark mark.Plus ∷ r) = Unit {0}
CanBegin (token.Mark mark.LeftParen ∷ r) = Unit {0}
CanBegin (token.Mark mark.LeftBracket ∷ r) = Unit {0}
CanBegin (token.Mark mark.LeftBrace ∷ r) = Unit {0}
CanBegin _ = ⊥

joined_begins : {s r : Tokens} {u : Text} → g.Joined s r u → CanBegin s
joined_begins g.one_text = tt
joined_begins (g.next_text j) = joined_begins j

pub begins : {k : Level} {s r : Tokens} {e : Expression} → Spells k s r e → CanBegin s
begins g.a_name = tt
begins g.an_int = tt
begins (g.a_text j) = joined_begins j
begins g.a_none = tt
begins g.a_true = tt
begins g.a_false = tt
begins (g.a_group d) = tt
begins g.a_unit = tt
begins (g.a_list d) = tt
begins (g.a_dict d) = tt
begins (g.an_attribute d) = begins d
begins (g.an_index d i) = begins d
begins (g.a_call d i h) = begins d
begins (g.a_sign g.minus d) = tt
begins (g.a_sign g.plus d) = tt
begins (g.a_primary d) = begins d
begins (g.a_product c d i) = begins d
begins (g.a_factor d) = begins d
begins (g.a_sum c d i) = begins d
begins (g.a_term d) = begins d
begins (g.a_comparison c d i) = begins d
begins (g.a_not_in d i) = begins d
begins (g.an_is c d) = begins d
begins (g.an_is_not c d) = begins d
begins (g.uncompared d) = begins d
begins (g.a_negation d) = tt
begins (g.affirmed d) = begins d
begins (g.a_conjunction d i) = begins d
begins (g.a_conjunct d) = begins d
begins (g.a_disjunction d i) = begins d
begins (g.a_disjunct d) = begins d
begins (g.a_conditional d i j) = begins d
begins (g.unconditional d) = begins d
begins (g.a_tuple d i) = begins d
begins (g.single d) = begins d

-- ---- names

pub one_many : (s r q : Tokens) (ns ms : List Text) → Many s r ns → EndsNames r → Many s q ms → EndsNames q → Same ns ms r q
one_many _ _ _ _ _ target.two_names h target.two_names i = record { thing = refl; rest = refl }
one_many _ _ _ _ _ target.two_names h target.two_names_and_comma i = absurd h
one_many _ _ _ _ _ target.two_names h (target.another_name target.two_names) i = absurd h
one_many _ _ _ _ _ target.two_names h (target.another_name target.two_names_and_comma) i = absurd h
one_many _ _ _ _ _ target.two_names h (target.another_name (target.another_name m)) i = absurd h
one_many _ _ _ _ _ target.two_names_and_comma h target.two_names i = absurd i
one_many _ _ _ _ _ target.two_names_and_comma h target.two_names_and_comma i = record { thing = refl; rest = refl }
one_many _ _ _ _ _ target.two_names_and_comma h (target.another_name target.two_names) i = absurd h
one_many _ _ _ _ _ target.two_names_and_comma h (target.another_name target.two_names_and_comma) i = absurd h
one_many _ _ _ _ _ target.two_names_and_comma h (target.another_name (target.another_name target.two_names)) i = absurd h
one_many _ _ _ _ _ target.two_names_and_comma h (target.another_name (target.another_name target.two_names_and_comma)) i = absurd h
one_many _ _ _ _ _ target.two_names_and_comma h (target.another_name (target.another_name (target.another_name m))) i = absurd h
one_many _ _ _ _ _ (target.another_name target.two_names) h target.two_names i = absurd i
one_many _ _ _ _ _ (target.another_name target.two_names_and_comma) h target.two_names i = absurd i
one_many _ _ _ _ _ (target.another_name (target.another_name m)) h target.two_names i = absurd i
one_many _ _ _ _ _ (target.another_name target.two_names) h target.two_names_and_comma i = absurd i
one_many _ _ _ _ _ (target.another_name target.two_names_and_comma) h target.two_names_and_comma i = absurd i
one_many _ _ _ _ _ (target.another_name (target.another_name target.two_names)) h target.two_names_and_comma i = absurd i
one_many _ _ _ _ _ (target.another_name (target.another_name target.two_names_and_comma)) h target.two_names_and_comma i = absurd i
one_many _ _ _ _ _ (target.another_name (target.another_name (target.another_name m))) h target.two_names_and_comma i = absurd i
one_many _ r q _ _ (target.another_name {a = a} {names = ns} m) h (target.another_name {names = ms} n) i =
    let x = one_many _ r q ns ms m h n i in record { thing = ap (λ names. a ∷ names) x.thing; rest = x.rest }

pub one_names : (s r q : Tokens) (g' h' : Target) → Names s r g' → EndsNames r → Names s q h' → EndsNames q → Same g' h' r q
one_names _ _ _ _ _ target.one_name i target.one_name j = record { thing = refl; rest = refl }
one_names _ _ _ _ _ target.one_name i (target.many_names target.two_names) j = absurd i
one_names _ _ _ _ _ target.one_name i (target.many_names target.two_names_and_comma) j = absurd i
one_names _ _ _ _ _ target.one_name i (target.many_names (target.another_name m)) j = absurd i
one_names _ _ _ _ _ (target.many_names target.two_names) i target.one_name j = absurd j
one_names _ _ _ _ _ (target.many_names target.two_names_and_comma) i target.one_name j = absurd j
one_names _ _ _ _ _ (target.many_names (target.another_name m)) i target.one_name j = absurd j
one_names s r q _ _ (target.many_names {names = ns} m) i (target.many_names {names = ms} n) j =
    let x = one_many s r q ns ms m i n j in record { thing = ap syntax.ToNames x.thing; rest = x.rest }
one_names _ r q _ _ (target.many_names {names = ns} m) i (target.names_in_parentheses {s = s} {names = ms} n) j = elim m [ ]
one_names _ r q _ _ (target.names_in_parentheses {s = s} {names = ns} m) i (target.many_names {names = ms} n) j = elim n [ ]
one_names _ r q _ _ (target.names_in_parentheses {s = s} {names = ns} m) i (target.names_in_parentheses {names = ms} n) j =
    let x = one_many s (t.right_paren ∷ r) (t.right_paren ∷ q) ns ms m tt n tt in record { thing = ap syntax.ToNames x.thing; rest = ap behind x.rest }

-- ---- targets are phrases

listed_one : (ns ms : List Text) → names_listed ns ≡ names_listed ms → ns ≡ ms
listed_one [] [] h = refl
listed_one [] (m ∷ ms) h = absurd cc
listed_one (n ∷ ns) [] h = absurd cc
listed_one (n ∷ ns) (m ∷ ms) h = let first : n ≡ m = cc in let rest : ns ≡ ms = listed_one ns ms cc in cc

phrase_one : (a b : Target) → as_phrase a ≡ as_phrase b → a ≡ b
phrase_one (syntax.ToName n) (syntax.ToName m) h = cc
phrase_one (syntax.ToAttr e n) (syntax.ToAttr d m) h = cc
phrase_one (syntax.ToIndex e i) (syntax.ToIndex d j) h = cc
phrase_one (syntax.ToNames ns) (syntax.ToNames ms) h = ap syntax.ToNames (listed_one ns ms cc)
phrase_one a b h = absurd cc

-- ---- ends

pub parameter_ends : (r : Tokens) → EndsParameter r → IsEnd E r
parameter_ends (token.Mark mark.Comma ∷ r) h = tt
parameter_ends (token.Mark mark.RightParen ∷ r) h = tt
parameter_ends r h = absurd h

pub annotation_ends : (r : Tokens) → EndsAnnotation r → IsEnd E r
annotation_ends (token.Mark mark.Equal ∷ r) h = tt
annotation_ends (token.Mark mark.Comma ∷ r) h = tt
annotation_ends (token.Mark mark.RightParen ∷ r) h = tt
annotation_ends r h = absurd h

parameter_is_annotation : (r : Tokens) → EndsParameter r → EndsAnnotation r
parameter_is_annotation (token.Mark mark.Comma ∷ r) h = tt
parameter_is_annotation (token.Mark mark.RightParen ∷ r) h = tt
parameter_is_annotation r h = absurd h

pub default_begins : {s r : Tokens} {d : Option Expression} → Default s r d → EndsParameter r → EndsAnnotation s
default_begins {r = r} l.no_default h = parameter_is_annotation r h
default_begins (l.a_default d) h = tt

other_token : {r q : Tokens} → t.right_paren ∷ r ≡ t.comma ∷ q → ⊥
other_token h = cc

no_as : {r q : Tokens} → t.colon ∷ r ≡ t.as_ ∷ q → ⊥
no_as h = cc

pub no_rest : {c : Token} {r : Tokens} → [] ≡ c ∷ r → ⊥
no_rest h = cc

pub augmented_ends : {c : Token} {op : BinaryOp} (r : Tokens) → Augmented c op → IsEnd L (c ∷ r)
augmented_ends r l.plus_equal = tt
augmented_ends r l.minus_equal = tt
augmented_ends r l.star_equal = tt
augmented_ends r l.double_slash_equal = tt
augmented_ends r l.percent_equal = tt

-- ---- imports

one_item : (s r q : Tokens) (a b : Import) → Item s r a → EndsItem r → Item s q b → EndsItem q → Same a b r q
one_item _ _ _ _ _ l.an_item i l.an_item j = record { thing = refl; rest = refl }
one_item _ _ _ _ _ l.an_item i l.an_item_as j = absurd i
one_item _ _ _ _ _ l.an_item_as i l.an_item j = absurd j
one_item _ _ _ _ _ l.an_item_as i l.an_item_as j = record { thing = refl; rest = refl }

items_end : (r : Tokens) → EndsItems r → EndsItem r
items_end [] h = tt
items_end (token.Mark mark.RightParen ∷ r) h = tt
items_end (token.Mark mark.Comma ∷ r) h = tt
items_end r h = absurd h

-- what behind a comma ends the items begins no item
no_item_at : {m r : Tokens} {is : List Import} → EndsItems (t.comma ∷ m) → ImportItems m r is → ⊥
no_item_at h (l.last_import l.an_item) = absurd h
no_item_at h (l.last_import l.an_item_as) = absurd h
no_item_at h (l.next_import l.an_item i) = absurd h
no_item_at h (l.next_import l.an_item_as i) = absurd h

pub one_import_items : (s r q : Tokens) (a b : List Import) → ImportItems s r a → EndsItems r → ImportItems s q b → EndsItems q → Same a b r q
one_import_items s r q _ _ (l.last_import {i = a} u) h (l.last_import {i = b} v) k =
    let x = one_item s r q a b u (items_end r h) v (items_end q k) in record { thing = ap (λ i. i ∷ []) x.thing; rest = x.rest }
one_import_items s r q _ _ (l.last_import {i = a} u) h (l.next_import {m = m} {i = b} v vs) k =
    let x = one_item s r (t.comma ∷ m) a b u (items_end r h) v tt in absurd (no_item_at (subst EndsItems x.rest h) vs)
one_import_items s r q _ _ (l.next_import {m = m} {i = a} u us) h (l.last_import {i = b} v) k =
    let x = one_item s q (t.comma ∷ m) b a v (items_end q k) u tt in absurd (no_item_at (subst EndsItems x.rest k) us)
one_import_items s r q _ _ (l.next_import {m = m} {i = a} {is = is} u us) h (l.next_import {m = m'} {i = b} {is = is'} v vs) k =
    let x = one_item s (t.comma ∷ m) (t.comma ∷ m') a b u tt v tt in
    let here : m ≡ m' = ap behind x.rest in
    let y = one_import_items m r q is is' us h (subst (λ z. ImportItems z q is') (sym here) vs) k in
    let first : a ≡ b = x.thing in
    let others : is ≡ is' = y.thing in
    record { thing = cc; rest = y.rest }

items_begin : {r : Tokens} {is : List Import} {s : Tokens} → ImportItems (t.left_paren ∷ s) r is → ⊥
items_begin (l.last_import u) = elim u [ ]
items_begin (l.next_import u us) = elim u [ ]

one_taken : (s : Tokens) (a b : List Import) → Taken s a → Taken s b → a ≡ b
one_taken s a b (l.taken u) (l.taken v) = (one_import_items s [] [] a b u tt v tt).thing
one_taken _ a b (l.taken u) (l.taken_in_parentheses v) = absurd (items_begin u)
one_taken _ a b (l.taken u) (l.taken_with_comma v) = absurd (items_begin u)
one_taken _ a b (l.taken_in_parentheses u) (l.taken v) = absurd (items_begin v)
one_taken _ a b (l.taken_with_comma u) (l.taken v) = absurd (items_begin v)
one_taken _ a b (l.taken_in_parentheses {s = s} u) (l.taken_in_parentheses v) = (one_import_items s (t.right_paren ∷ []) (t.right_paren ∷ []) a b u tt v tt).thing
one_taken _ a b (l.taken_with_comma {s = s} u) (l.taken_with_comma v) = (one_import_items s (t.comma ∷ t.right_paren ∷ []) (t.comma ∷ t.right_paren ∷ []) a b u tt v tt).thing
one_taken _ a b (l.taken_in_parentheses {s = s} u) (l.taken_with_comma v) = absurd (other_token (one_import_items s (t.right_paren ∷ []) (t.comma ∷ t.right_paren ∷ []) a b u tt v tt).rest)
one_taken _ a b (l.taken_with_comma {s = s} u) (l.taken_in_parentheses v) = absurd (other_token (one_import_items s (t.right_paren ∷ []) (t.comma ∷ t.right_paren ∷ []) b a v tt u tt).rest)

-- ---- more ends

-- behind an annotation's type
value_ends : {r : Tokens} {v : Option Expression} → Value r v → IsEnd E r
value_ends l.no_value = tt
value_ends (l.a_value d) = tt

augmented_one : {c d : Token} {op other : BinaryOp} → c ≡ d → Augmented c op → Augmented d other → op ≡ other
augmented_one h l.plus_equal l.plus_equal = refl
augmented_one h l.minus_equal l.minus_equal = refl
augmented_one h l.star_equal l.star_equal = refl
augmented_one h l.double_slash_equal l.double_slash_equal = refl
augmented_one h l.percent_equal l.percent_equal = refl
augmented_one h u v = absurd cc

pub no_equal : {c : Token} {op : BinaryOp} {r q : Tokens} → Augmented c op → t.equal ∷ r ≡ c ∷ q → ⊥
no_equal l.plus_equal h = cc
no_equal l.minus_equal h = cc
no_equal l.star_equal h = cc
no_equal l.double_slash_equal h = cc
no_equal l.percent_equal h = cc

pub no_colon : {c : Token} {op : BinaryOp} {r q : Tokens} → Augmented c op → t.colon ∷ r ≡ c ∷ q → ⊥
no_colon l.plus_equal h = cc
no_colon l.minus_equal h = cc
no_colon l.star_equal h = cc
no_colon l.double_slash_equal h = cc
no_colon l.percent_equal h = cc

pub colon_or_equal : {r q : Tokens} → t.colon ∷ r ≡ t.equal ∷ q → ⊥
colon_or_equal h = cc

-- what a simple statement begins with: not with what begins a head
abbrev pub StartsSimple : Tokens → Type 0
StartsSimple [] = ⊥
StartsSimple (token.Word word.If ∷ r) = ⊥
StartsSimple (token.Word word.Elif ∷ r) = ⊥
StartsSimple (token.Word word.Else ∷ r) = ⊥
StartsSimple (token.Word word.While ∷ r) = ⊥
StartsSimple (token.Word word.For ∷ r) = ⊥
StartsSimple (token.Word word.Try ∷ r) = ⊥
StartsSimple (token.Word word.Except ∷ r) = ⊥
StartsSimple (token.Word word.Def ∷ r) = ⊥
StartsSimple (token.Word word.Class ∷ r) = ⊥
StartsSimple r = Unit {0}

can_start : (s : Tokens) → CanBegin s → StartsSimple s
can_start [] h = absurd h
can_start (token.Word word.If ∷ r) h = absurd h
can_start (token.Word word.Elif ∷ r) h = absurd h
can_start (token.Word word.Else ∷ r) h = absurd h
can_start (token.Word word.While ∷ r) h = absurd h
can_start (token.Word word.For ∷ r) h = absurd h
can_start (token.Word word.Try ∷ r) h = absurd h
can_start (token.Word word.Except ∷ r) h = absurd h
can_start (token.Word word.Def ∷ r) h = absurd h
can_start (token.Word word.Class ∷ r) h = absurd h
can_start r h = tt

pub name_phrase : (n : Text) (s : Tokens) → Spells L (token.Name n ∷ s) s (syntax.Name n)
name_phrase n s = g.single (primary_is g.a_name)

pub attribute_phrase : (n a : Text) (s : Tokens) → Spells L (token.Name n ∷ t.dot ∷ token.Name a ∷ s) s (syntax.Attr (syntax.Name n) a)
attribute_phrase n a s = g.single (primary_is (g.an_attribute g.a_name))

module _ (one : OneFront) where
  pub one_assigned : (s r q : Tokens) (a b : Target) → Assigned s r a → IsEnd L r → Assigned s q b → IsEnd L q → Same a b r q
  one_assigned s r q a b d i e j =
      let x = one L s r q (as_phrase a) (as_phrase b) (assigned_is d) i (assigned_is e) j in
      record { thing = phrase_one a b x.thing; rest = x.rest }

  pub one_place : (s r q : Tokens) (a b : Target) → Place s r a → IsEnd L r → Place s q b → IsEnd L q → Same a b r q
  one_place s r q a b d i e j = one_assigned s r q a b (target.to_place d) i (target.to_place e) j

  -- ---- parameters

  one_annotation : (s r q : Tokens) (a b : Option Expression) → Annotation s r a → EndsAnnotation r → Annotation s q b → EndsAnnotation q → Same a b r q
  one_annotation _ _ _ _ _ l.unannotated i l.unannotated j = record { thing = refl; rest = refl }
  one_annotation _ _ _ _ _ l.unannotated i (l.annotated e) j = absurd i
  one_annotation _ _ _ _ _ (l.annotated d) i l.unannotated j = absurd j
  one_annotation _ r q _ _ (l.annotated {s = s} {e = a} d) i (l.annotated {e = b} e) j =
      let x = one E s r q a b d (annotation_ends r i) e (annotation_ends q j) in record { thing = ap Some x.thing; rest = x.rest }

  one_default : (s r q : Tokens) (a b : Option Expression) → Default s r a → EndsParameter r → Default s q b → EndsParameter q → Same a b r q
  one_default _ _ _ _ _ l.no_default i l.no_default j = record { thing = refl; rest = refl }
  one_default _ _ _ _ _ l.no_default i (l.a_default e) j = absurd i
  one_default _ _ _ _ _ (l.a_default d) i l.no_default j = absurd j
  one_default _ r q _ _ (l.a_default {s = s} {e = a} d) i (l.a_default {e = b} e) j =
      let x = one E s r q a b d (parameter_ends r i) e (parameter_ends q j) in record { thing = ap Some x.thing; rest = x.rest }

  one_parameter : (s r q : Tokens) (a b : Param) → Parameter s r a → EndsParameter r → Parameter s q b → EndsParameter q → Same a b r q
  one_parameter _ r q _ _ (l.a_parameter {s = s} {m = m} {n = n} {k = k} {d = d} u v) i (l.a_parameter {m = m'} {k = k'} {d = d'} u' v') j =
      let x = one_annotation s m m' k k' u (default_begins v i) u' (default_begins v' j) in
      let y = one_default m r q d d' v i (subst (λ z. Default z q d') (sym x.rest) v') j in
      let kinds : k ≡ k' = x.thing in
      let defaults : d ≡ d' = y.thing in
      record { thing = cc; rest = y.rest }

  pub one_parameters : (s r q : Tokens) (a b : List Param) → Parameters s (t.right_paren ∷ r) a → Parameters s (t.right_paren ∷ q) b → Same a b r q
  one_parameters _ _ _ _ _ l.no_parameter l.no_parameter = record { thing = refl; rest = refl }
  one_parameters _ _ _ _ _ l.no_parameter (l.last_parameter u) = elim u [ ]
  one_parameters _ _ _ _ _ l.no_parameter (l.next_parameter u us) = elim u [ ]
  one_parameters _ _ _ _ _ (l.last_parameter u) l.no_parameter = elim u [ ]
  one_parameters _ _ _ _ _ (l.next_parameter u us) l.no_parameter = elim u [ ]
  one_parameters s r q _ _ (l.last_parameter {p = a} u) (l.last_parameter {p = b} v) =
      let x = one_parameter s (t.right_paren ∷ r) (t.right_paren ∷ q) a b u tt v tt in
      record { thing = ap (λ p. p ∷ []) x.thing; rest = ap behind x.rest }
  one_parameters s r q _ _ (l.last_parameter {p = a} u) (l.next_parameter {m = m} {p = b} v vs) =
      let x = one_parameter s (t.right_paren ∷ r) (t.comma ∷ m) a b u tt v tt in absurd (other_token x.rest)
  one_parameters s r q _ _ (l.next_parameter {m = m} {p = a} u us) (l.last_parameter {p = b} v) =
      let x = one_parameter s (t.right_paren ∷ q) (t.comma ∷ m) b a v tt u tt in absurd (other_token x.rest)
  one_parameters s r q _ _ (l.next_parameter {m = m} {p = a} {ps = ps} u us) (l.next_parameter {m = m'} {p = b} {ps = ps'} v vs) =
      let x = one_parameter s (t.comma ∷ m) (t.comma ∷ m') a b u tt v tt in
      let here : m ≡ m' = ap behind x.rest in
      let y = one_parameters m r q ps ps' us (subst (λ z. Parameters z (t.right_paren ∷ q) ps') (sym here) vs) in
      let first : a ≡ b = x.thing in
      let others : ps ≡ ps' = y.thing in
      record { thing = cc; rest = y.rest }

  one_result : (s r q : Tokens) (a b : Option Expression) → Result s r a → Result s q b → Same a b r q
  one_result _ _ _ _ _ l.no_result l.no_result = record { thing = refl; rest = refl }
  one_result _ r q _ _ (l.a_result {s = s} {e = a} d) (l.a_result {e = b} e) =
      let x = one E s (t.colon ∷ r) (t.colon ∷ q) a b d tt e tt in record { thing = ap Some x.thing; rest = ap behind x.rest }

  one_base : (s r q : Tokens) (a b : Option Expression) → Base s r a → Base s q b → Same a b r q
  one_base _ _ _ _ _ l.no_base l.no_base = record { thing = refl; rest = refl }
  one_base _ _ _ _ _ l.empty_base l.empty_base = record { thing = refl; rest = refl }
  one_base _ _ _ _ _ l.named_base l.named_base = record { thing = refl; rest = refl }
  one_base _ _ _ _ _ l.dotted_base l.dotted_base = record { thing = refl; rest = refl }

  -- ---- heads

  pub one_head : (s r q : Tokens) (a b : Head) → HeadAt s r a → HeadAt s q b → Same a b r q
  one_head _ r q _ _ (l.an_if {s = s} {e = a} d) (l.an_if {e = b} e) =
      let x = one E s (t.colon ∷ r) (t.colon ∷ q) a b d tt e tt in record { thing = ap form.If x.thing; rest = ap behind x.rest }
  one_head _ r q _ _ (l.an_elif {s = s} {e = a} d) (l.an_elif {e = b} e) =
      let x = one E s (t.colon ∷ r) (t.colon ∷ q) a b d tt e tt in record { thing = ap form.Elif x.thing; rest = ap behind x.rest }
  one_head _ _ _ _ _ l.an_else l.an_else = record { thing = refl; rest = refl }
  one_head _ r q _ _ (l.a_while {s = s} {e = a} d) (l.a_while {e = b} e) =
      let x = one E s (t.colon ∷ r) (t.colon ∷ q) a b d tt e tt in record { thing = ap form.While x.thing; rest = ap behind x.rest }
  one_head _ r q _ _ (l.a_for {s = s} {m = m} {g = g} {e = a} n d) (l.a_for {m = m'} {g = g'} {e = b} n' e) =
      let x = one_names s (t.in_ ∷ m) (t.in_ ∷ m') g g' n tt n' tt in
      let here : m ≡ m' = ap behind x.rest in
      let y = one L m (t.colon ∷ r) (t.colon ∷ q) a b d tt (subst (λ z. Spells L z (t.colon ∷ q) b) (sym here) e) tt in
      let targets : g ≡ g' = x.thing in
      let items : a ≡ b = y.thing in
      record { thing = cc; rest = ap behind y.rest }
  one_head _ _ _ _ _ l.a_try l.a_try = record { thing = refl; rest = refl }
  one_head _ _ _ _ _ l.an_except l.an_except = record { thing = refl; rest = refl }
  one_head _ _ _ _ _ l.an_except (l.an_except_of e) = absurd (begins e)
  one_head _ _ _ _ _ l.an_except (l.an_except_as e) = absurd (begins e)
  one_head _ _ _ _ _ (l.an_except_of d) l.an_except = absurd (begins d)
  one_head _ _ _ _ _ (l.an_except_as d) l.an_except = absurd (begins d)
  one_head _ r q _ _ (l.an_except_of {s = s} {e = a} d) (l.an_except_of {e = b} e) =
      let x = one E s (t.colon ∷ r) (t.colon ∷ q) a b d tt e tt in record { thing = ap (λ z. form.Except (Some z) None) x.thing; rest = ap behind x.rest }
  one_head _ r q _ _ (l.an_except_of {s = s} {e = a} d) (l.an_except_as {e = b} {n = n} e) =
      let x = one E s (t.colon ∷ r) (t.as_ ∷ token.Name n ∷ t.colon ∷ q) a b d tt e tt in absurd (no_as x.rest)
  one_head _ r q _ _ (l.an_except_as {s = s} {e = a} {n = n} d) (l.an_except_of {e = b} e) =
      let x = one E s (t.colon ∷ q) (t.as_ ∷ token.Name n ∷ t.colon ∷ r) b a e tt d tt in absurd (no_as x.rest)
  one_head _ r q _ _ (l.an_except_as {s = s} {e = a} {n = n} d) (l.an_except_as {e = b} {n = m} e) =
      let x = one E s (t.as_ ∷ token.Name n ∷ t.colon ∷ r) (t.as_ ∷ token.Name m ∷ t.colon ∷ q) a b d tt e tt in
      let matches : a ≡ b = x.thing in
      let rests : token.Name n ∷ t.colon ∷ r ≡ token.Name m ∷ t.colon ∷ q = ap behind x.rest in
      let names : n ≡ m = cc in
      record { thing = cc; rest = cc }
  one_head _ r q _ _ (l.a_def {s = s} {m = m} {n = n} {ps = ps} {k = k} u h v) (l.a_def {m = m'} {ps = ps'} {k = k'} u' h' v') =
      let x = one_parameters s m m' ps ps' u u' in
      let y = one_result m r q k k' v (subst (λ z. Result z q k') (sym x.rest) v') in
      let params : ps ≡ ps' = x.thing in
      let results : k ≡ k' = y.thing in
      record { thing = cc; rest = y.rest }
  one_head _ r q _ _ (l.a_class {s = s} {n = n} {b = a} u) (l.a_class {b = b} v) =
      let x = one_base s r q a b u v in record { thing = ap (form.Class n) x.thing; rest = x.rest }

  -- ---- statements

  one_value : (s : Tokens) (a b : Option Expression) → Value s a → Value s b → a ≡ b
  one_value _ _ _ l.no_value l.no_value = refl
  one_value _ _ _ (l.a_value {s = s} {e = a} d) (l.a_value {e = b} e) = ap Some (one L s [] [] a b d tt e tt).thing

  -- an expression statement is nothing else
  by_expression : (s : Tokens) (e : Expression) (b : Kind) → Spells L s [] e → Simple s b → syntax.Eval e ≡ b
  by_expression s e _ d (l.an_expression {e = b} i) = ap syntax.Eval (one L s [] [] e b d tt i tt).thing
  by_expression s e _ d (l.an_assignment {m = m} {g = a} u i) = absurd (no_rest (one L s [] (t.equal ∷ m) e (as_phrase a) d tt (assigned_is u) tt).rest)
  by_expression _ e _ d (l.an_annotation {s = s} {n = n} u v) = absurd (no_rest (one L (token.Name n ∷ t.colon ∷ s) [] (t.colon ∷ s) e (syntax.Name n) d tt (g.single (primary_is g.a_name)) tt).rest)
  by_expression _ e _ d (l.an_attribute_annotation {s = s} {n = n} {a = a} u v) =
      absurd (no_rest (one L (token.Name n ∷ t.dot ∷ token.Name a ∷ t.colon ∷ s) [] (t.colon ∷ s) e (syntax.Attr (syntax.Name n) a) d tt (g.single (primary_is (g.an_attribute g.a_name))) tt).rest)
  by_expression s e _ d (l.an_augmentation {m = m} {c = c} {g = a} u v i) = absurd (no_rest (one L s [] (c ∷ m) e (as_phrase a) d tt (place_is v) (augmented_ends m u)).rest)
  by_expression s e b d i = absurd (begins d)

  by_assignment : (s m : Tokens) (a : Target) (e : Expression) (b : Kind) → Assigned s (t.equal ∷ m) a → Spells L m [] e → Simple s b → syntax.Assign a e ≡ b
  by_assignment s m a e _ u d (l.an_assignment {m = m'} {g = a'} {e = e'} v i) =
      let x = one_assigned s (t.equal ∷ m) (t.equal ∷ m') a a' u tt v tt in
      let here : m ≡ m' = ap behind x.rest in
      let y = one L m [] [] e e' d tt (subst (λ z. Spells L z [] e') (sym here) i) tt in
      let targets : a ≡ a' = x.thing in
      let values : e ≡ e' = y.thing in
      cc
  by_assignment s m a e _ u d (l.an_expression i) = sym (by_expression s _ (syntax.Assign a e) i (l.an_assignment u d))
  by_assignment _ m a e _ u d (l.an_annotation {s = s} {n = n} v w) =
      absurd (colon_or_equal (one L (token.Name n ∷ t.colon ∷ s) (t.colon ∷ s) (t.equal ∷ m) (syntax.Name n) (as_phrase a) (name_phrase n (t.colon ∷ s)) tt (assigned_is u) tt).rest)
  by_assignment _ m a e _ u d (l.an_attribute_annotation {s = s} {n = n} {a = f} v w) =
      absurd (colon_or_equal (one L (token.Name n ∷ t.dot ∷ token.Name f ∷ t.colon ∷ s) (t.colon ∷ s) (t.equal ∷ m) (syntax.Attr (syntax.Name n) f) (as_phrase a) (attribute_phrase n f (t.colon ∷ s)) tt (assigned_is u) tt).rest)
  by_assignment s m a e _ u d (l.an_augmentation {m = m'} {c = c} {g = a'} v w i) =
      absurd (no_equal v (one L s (t.equal ∷ m) (c ∷ m') (as_phrase a) (as_phrase a') (assigned_is u) tt (place_is w) (augmented_ends m' v)).rest)
  by_assignment s m a e b u d i = absurd (begins (assigned_is u))

  by_augmentation : (s m : Tokens) (c : Token) (op : BinaryOp) (a : Target) (e : Expression) (b : Kind) → Augmented c op → Place s (c ∷ m) a → Spells L m [] e → Simple s b → syntax.Augment a op e ≡ b
  by_augmentation s m c op a e _ k u d (l.an_augmentation {m = m'} {c = c'} {op = op'} {g = a'} {e = e'} k' v i) =
      let x = one_place s (c ∷ m) (c' ∷ m') a a' u (augmented_ends m k) v (augmented_ends m' k') in
      let first : c ≡ c' = cc in
      let here : m ≡ m' = ap behind x.rest in
      let y = one L m [] [] e e' d tt (subst (λ z. Spells L z [] e') (sym here) i) tt in
      let ops : op ≡ op' = augmented_one first k k' in
      let targets : a ≡ a' = x.thing in
      let values : e ≡ e' = y.thing in
      cc
  by_augmentation s m c op a e _ k u d (l.an_expression i) = sym (by_expression s _ (syntax.Augment a op e) i (l.an_augmentation k u d))
  by_augmentation s m c op a e _ k u d (l.an_assignment v i) = sym (by_assignment s _ _ _ (syntax.Augment a op e) v i (l.an_augmentation k u d))
  by_augmentation _ m c op a e _ k u d (l.an_annotation {s = s} {n = n} v w) =
      absurd (no_colon k (one L (token.Name n ∷ t.colon ∷ s) (t.colon ∷ s) (c ∷ m) (syntax.Name n) (as_phrase a) (name_phrase n (t.colon ∷ s)) tt (place_is u) (augmented_ends m k)).rest)
  by_augmentation _ m c op a e _ k u d (l.an_attribute_annotation {s = s} {n = n} {a = f} v w) =
      absurd (no_colon k (one L (token.Name n ∷ t.dot ∷ token.Name f ∷ t.colon ∷ s) (t.colon ∷ s) (c ∷ m) (syntax.Attr (syntax.Name n) f) (as_phrase a) (attribute_phrase n f (t.colon ∷ s)) tt (place_is u) (augmented_ends m k)).rest)
  by_augmentation s m c op a e b k u d i = absurd (begins (place_is u))

  annotation_one : (s m q : Tokens) (k k' : Expression) (v v' : Option Expression) → Spells E s m k → Value m v → Spells E s q k' → Value q v' → (k ≡ k') × (v ≡ v')
  annotation_one s m q k k' v v' d u e w =
      let x = one E s m q k k' d (value_ends u) e (value_ends w) in
      (x.thing, one_value m v v' u (subst (λ z. Value z v') (sym x.rest) w))

  pub one_simple : (s : Tokens) (a b : Kind) → Simple s a → Simple s b → a ≡ b
  one_simple s _ b (l.an_expression {e = e} d) i = by_expression s e b d i
  one_simple s _ b (l.an_assignment {m = m} {g = a} {e = e} u d) i = by_assignment s m a e b u d i
  one_simple s _ b (l.an_augmentation {m = m} {c = c} {op = op} {g = a} {e = e} k u d) i = by_augmentation s m c op a e b k u d i
  one_simple s a _ i (l.an_expression {e = e} d) = sym (by_expression s e a d i)
  one_simple s a _ i (l.an_assignment {m = m} {g = b} {e = e} u d) = sym (by_assignment s m b e a u d i)
  one_simple s a _ i (l.an_augmentation {m = m} {c = c} {op = op} {g = b} {e = e} k u d) = sym (by_augmentation s m c op b e a k u d i)
  one_simple _ _ _ l.a_pass l.a_pass = refl
  one_simple _ _ _ l.a_break l.a_break = refl
  one_simple _ _ _ l.a_continue l.a_continue = refl
  one_simple _ _ _ l.a_return l.a_return = refl
  one_simple _ _ _ l.a_return (l.a_return_of d) = absurd (begins d)
  one_simple _ _ _ (l.a_return_of d) l.a_return = absurd (begins d)
  one_simple _ _ _ (l.a_return_of {s = s} {e = a} d) (l.a_return_of {e = b} e) = ap (λ z. syntax.Return (Some z)) (one L s [] [] a b d tt e tt).thing
  one_simple _ _ _ l.a_raise l.a_raise = refl
  one_simple _ _ _ l.a_raise (l.a_raise_of d) = absurd (begins d)
  one_simple _ _ _ (l.a_raise_of d) l.a_raise = absurd (begins d)
  one_simple _ _ _ (l.a_raise_of {s = s} {e = a} d) (l.a_raise_of {e = b} e) = ap (λ z. syntax.Raise (Some z)) (one E s [] [] a b d tt e tt).thing
  one_simple _ _ _ (l.an_import {s = s} {is = a} u) (l.an_import {is = b} v) = ap syntax.Imports (one_import_items s [] [] a b u tt v tt).thing
  one_simple _ _ _ (l.a_from {s = s} {n = n} {is = a} u) (l.a_from {is = b} v) = ap (syntax.From n) (one_taken s a b u v)
  one_simple _ _ _ (l.an_annotation {s = s} {m = m} {n = n} {k = k} {v = v} d u) (l.an_annotation {m = q} {k = k'} {v = v'} e w) =
      let x = annotation_one s m q k k' v v' d u e w in
      let kinds : k ≡ k' = x.0 in
      let values : v ≡ v' = x.1 in
      cc
  one_simple _ _ _ (l.an_attribute_annotation {s = s} {m = m} {n = n} {a = f} {k = k} {v = v} d u) (l.an_attribute_annotation {m = q} {k = k'} {v = v'} e w) =
      let x = annotation_one s m q k k' v v' d u e w in
      let kinds : k ≡ k' = x.0 in
      let values : v ≡ v' = x.1 in
      cc

  -- ---- lines

  -- no simple statement begins as a head does, or is empty
  pub no_simple : (s : Tokens) (a : Kind) → Simple s a → StartsSimple s
  no_simple _ _ l.a_pass = tt
  no_simple _ _ l.a_break = tt
  no_simple _ _ l.a_continue = tt
  no_simple _ _ l.a_return = tt
  no_simple _ _ (l.a_return_of d) = tt
  no_simple _ _ l.a_raise = tt
  no_simple _ _ (l.a_raise_of d) = tt
  no_simple _ _ (l.an_import u) = tt
  no_simple _ _ (l.a_from u) = tt
  no_simple s _ (l.an_expression d) = can_start s (begins d)
  no_simple s _ (l.an_assignment u d) = can_start s (begins (assigned_is u))
  no_simple _ _ (l.an_annotation d u) = tt
  no_simple _ _ (l.an_attribute_annotation d u) = tt
  no_simple s _ (l.an_augmentation k u d) = can_start s (begins (place_is u))

  pub no_head : (s r : Tokens) (h : Head) (b : Kind) → HeadAt s r h → Simple s b → ⊥
  no_head _ _ _ b (l.an_if d) i = no_simple _ _ i
  no_head _ _ _ b (l.an_elif d) i = no_simple _ _ i
  no_head _ _ _ b l.an_else i = no_simple _ _ i
  no_head _ _ _ b (l.a_while d) i = no_simple _ _ i
  no_head _ _ _ b (l.a_for u d) i = no_simple _ _ i
  no_head _ _ _ b l.a_try i = no_simple _ _ i
  no_head _ _ _ b l.an_except i = no_simple _ _ i
  no_head _ _ _ b (l.an_except_of d) i = no_simple _ _ i
  no_head _ _ _ b (l.an_except_as d) i = no_simple _ _ i
  no_head _ _ _ b (l.a_def u h v) i = no_simple _ _ i
  no_head _ _ _ b (l.a_class u) i = no_simple _ _ i

  pub one_line : (s : Tokens) (a b : Form) → Line s a → Line s b → a ≡ b
  one_line s _ _ (l.a_head {h = a} u) (l.a_head {h = b} v) = ap (λ h. form.Header h None) (one_head s [] [] a b u v).thing
  one_line s _ _ (l.a_head {h = a} u) (l.a_head_with {m = m} {h = b} {k = k} v i) = absurd (no_simple [] k (subst (λ z. Simple z k) (sym (one_head s [] m a b u v).rest) i))
  one_line s _ _ (l.a_head_with {m = m} {h = a} {k = k} u i) (l.a_head {h = b} v) = absurd (no_simple [] k (subst (λ z. Simple z k) (one_head s m [] a b u v).rest i))
  one_line s _ _ (l.a_head_with {m = m} {h = a} {k = k} u i) (l.a_head_with {m = q} {h = b} {k = k'} v j) =
      let x = one_head s m q a b u v in
      let heads : a ≡ b = x.thing in
      let kinds : k ≡ k' = one_simple m k k' i (subst (λ z. Simple z k') (sym x.rest) j) in
      cc
  one_line s _ _ (l.a_head {h = a} u) (l.a_statement {k = b} i) = absurd (no_head s [] a b u i)
  one_line s _ _ (l.a_head_with {m = m} {h = a} u j) (l.a_statement {k = b} i) = absurd (no_head s m a b u i)
  one_line s _ _ (l.a_statement {k = b} i) (l.a_head {h = a} u) = absurd (no_head s [] a b u i)
  one_line s _ _ (l.a_statement {k = b} i) (l.a_head_with {m = m} {h = a} u j) = absurd (no_head s m a b u i)
  one_line s _ _ (l.a_statement {k = a} i) (l.a_statement {k = b} j) = ap form.Simple (one_simple s a b i j)
