-- The grammar of expressions, with a constructor for each alternative. `Spells k s r e`: at the front of the tokens s stands a phrase
-- of level k that spells e, and the tokens r follow it. `{..}` is any number of times, `[..]` once or not at all.
use Rattle.std.specs.Prelude.{◌≡◌, ℕ, Bool, true, false, not, ◌&&◌, ◌||◌, List, ◌∷◌, ◌++◌}
use Rattle.std.specs.Str.{bytes_eq}
use Rattle.py_tree.specs.Syntax as x
use Rattle.py_tree.specs.Syntax.{Text, Expression, Expressions, Pairs, Keywords}
use Rattle.py_tree.specs.declared.operator.UnaryOp.{UnaryOp}
use Rattle.py_tree.specs.declared.operator.UnaryOp.TheVariants as unary
use Rattle.py_tree.specs.declared.operator.BinaryOp.{BinaryOp}
use Rattle.py_tree.specs.declared.operator.BinaryOp.TheVariants as binary
use Rattle.py_tree.specs.declared.operator.CompareOp.{CompareOp}
use Rattle.py_tree.specs.declared.operator.CompareOp.TheVariants as compare
use Rattle.py_tree.specs.declared.operator.Const.{Const}
use Rattle.py_tree.specs.declared.operator.Const.TheVariants as constant
use Rattle.py_lexer.specs.declared.token.Token.{Token}
use Rattle.py_lexer.specs.declared.token.Token.TheVariants as token
use Rattle.py_phrases.specs.Tokens as t

abbrev pub Tokens : Type 0
Tokens = List Token

-- P  a primary: an atom with what is appended to it        A  conjunctions
-- U  signs                                                  O  disjunctions
-- M  products                                               E  an expression
-- S  sums                                                   L  an expression, or a tuple without parentheses
-- C  comparisons                                            N  negations
pub data Level : Type 0 where
  P U M S C N A O E L : Level

-- ---- operators

pub data Sign : Token → UnaryOp → Type 0 where
  minus : Sign t.minus unary.Minus
  plus : Sign t.plus unary.Plus

pub data Product : Token → BinaryOp → Type 0 where
  times : Product t.star binary.Mul
  floor_division : Product t.double_slash binary.FloorDiv
  remainder : Product t.percent binary.Mod

pub data Sum : Token → BinaryOp → Type 0 where
  addition : Sum t.plus binary.Add
  subtraction : Sum t.minus binary.Sub

pub data Comparison : Token → CompareOp → Type 0 where
  equal : Comparison t.equal_equal compare.Eq
  unequal : Comparison t.not_equal compare.Ne
  less : Comparison t.less compare.Lt
  less_or_equal : Comparison t.less_equal compare.Le
  greater : Comparison t.greater compare.Gt
  greater_or_equal : Comparison t.greater_equal compare.Ge
  member : Comparison t.in_ compare.In

pub data Constant : Token → Const → Type 0 where
  is_none : Constant t.none constant.Nil
  is_true : Constant t.true_ constant.True
  is_false : Constant t.false_ constant.False

-- whether a keyword argument has that name
abbrev pub has_keyword : Text → Keywords → Bool
has_keyword name x.end_of_keywords = false
has_keyword name (x.more_keywords (x.Named other e) rest) = bytes_eq name other || has_keyword name rest

-- no name is given twice
abbrev pub distinct : Keywords → Bool
distinct x.end_of_keywords = true
distinct (x.more_keywords (x.Named name e) rest) = not (has_keyword name rest) && distinct rest

-- STR {STR}
pub data Joined : Tokens → Tokens → Text → Type 0 where
  one_text : {u : Text} {r : Tokens} → Joined (token.Str u ∷ r) r u
  next_text : {s r : Tokens} {u v : Text} → Joined s (token.Str v ∷ r) u → Joined s r (u ++ v)

mutual
  pub data Spells : Level → Tokens → Tokens → Expression → Type 0 where
    -- atom = NAME | INT | STR {STR} | "None" | "True" | "False" | "(" [L] ")" | "[" items "]" | "{" pairs "}"
    a_name : {n : Text} {r : Tokens} → Spells P (token.Name n ∷ r) r (x.Name n)
    an_int : {n : ℕ} {r : Tokens} → Spells P (token.Int n ∷ r) r (x.Int n)
    a_text : {s r : Tokens} {u : Text} → Joined s r u → Spells P s r (x.Str u)
    a_none : {r : Tokens} → Spells P (t.none ∷ r) r x.Nil
    a_true : {r : Tokens} → Spells P (t.true_ ∷ r) r x.True
    a_false : {r : Tokens} → Spells P (t.false_ ∷ r) r x.False
    a_group : {s r : Tokens} {e : Expression} → Spells L s (t.right_paren ∷ r) e → Spells P (t.left_paren ∷ s) r e
    a_unit : {r : Tokens} → Spells P (t.left_paren ∷ t.right_paren ∷ r) r (x.Tuple x.end_of_expressions)
    a_list : {s r : Tokens} {es : Expressions} → Items s (t.right_bracket ∷ r) es → Spells P (t.left_bracket ∷ s) r (x.Listed es)
    a_dict : {s r : Tokens} {ps : Pairs} → Entries s (t.right_brace ∷ r) ps → Spells P (t.left_brace ∷ s) r (x.Dict ps)
    -- P = atom {"." NAME | "[" L "]" | "(" args ")"}
    an_attribute : {s r : Tokens} {e : Expression} {n : Text} → Spells P s (t.dot ∷ token.Name n ∷ r) e → Spells P s r (x.Attr e n)
    an_index : {s m r : Tokens} {e i : Expression} → Spells P s (t.left_bracket ∷ m) e → Spells L m (t.right_bracket ∷ r) i → Spells P s r (x.Index e i)
    a_call : {s m r : Tokens} {e : Expression} {es : Expressions} {ks : Keywords} → Spells P s (t.left_paren ∷ m) e → Arguments m (t.right_paren ∷ r) es ks → distinct ks ≡ true → Spells P s r (x.Call e es ks)
    -- U = ("-" | "+") U | P
    a_sign : {s r : Tokens} {c : Token} {op : UnaryOp} {e : Expression} → Sign c op → Spells U s r e → Spells U (c ∷ s) r (x.Unary op e)
    a_primary : {s r : Tokens} {e : Expression} → Spells P s r e → Spells U s r e
    -- M = U {("*" | "//" | "%") U}
    a_product : {s m r : Tokens} {c : Token} {op : BinaryOp} {a b : Expression} → Product c op → Spells M s (c ∷ m) a → Spells U m r b → Spells M s r (x.Binary op a b)
    a_factor : {s r : Tokens} {e : Expression} → Spells U s r e → Spells M s r e
    -- S = M {("+" | "-") M}
    a_sum : {s m r : Tokens} {c : Token} {op : BinaryOp} {a b : Expression} → Sum c op → Spells S s (c ∷ m) a → Spells M m r b → Spells S s r (x.Binary op a b)
    a_term : {s r : Tokens} {e : Expression} → Spells M s r e → Spells S s r e
    -- C = S [("==" | "!=" | "<" | "<=" | ">" | ">=" | "in" | "not" "in") S | "is" ["not"] ("None" | "True" | "False")]
    a_comparison : {s m r : Tokens} {c : Token} {op : CompareOp} {a b : Expression} → Comparison c op → Spells S s (c ∷ m) a → Spells S m r b → Spells C s r (x.Compare op a b)
    a_not_in : {s m r : Tokens} {a b : Expression} → Spells S s (t.not_ ∷ t.in_ ∷ m) a → Spells S m r b → Spells C s r (x.Compare compare.NotIn a b)
    an_is : {s r : Tokens} {c : Token} {k : Const} {e : Expression} → Constant c k → Spells S s (t.is_ ∷ c ∷ r) e → Spells C s r (x.Is false e k)
    an_is_not : {s r : Tokens} {c : Token} {k : Const} {e : Expression} → Constant c k → Spells S s (t.is_ ∷ t.not_ ∷ c ∷ r) e → Spells C s r (x.Is true e k)
    uncompared : {s r : Tokens} {e : Expression} → Spells S s r e → Spells C s r e
    -- N = "not" N | C
    a_negation : {s r : Tokens} {e : Expression} → Spells N s r e → Spells N (t.not_ ∷ s) r (x.Not e)
    affirmed : {s r : Tokens} {e : Expression} → Spells C s r e → Spells N s r e
    -- A = N {"and" N}
    a_conjunction : {s m r : Tokens} {a b : Expression} → Spells A s (t.and_ ∷ m) a → Spells N m r b → Spells A s r (x.And a b)
    a_conjunct : {s r : Tokens} {e : Expression} → Spells N s r e → Spells A s r e
    -- O = A {"or" A}
    a_disjunction : {s m r : Tokens} {a b : Expression} → Spells O s (t.or_ ∷ m) a → Spells A m r b → Spells O s r (x.Or a b)
    a_disjunct : {s r : Tokens} {e : Expression} → Spells A s r e → Spells O s r e
    -- E = O ["if" O "else" E]
    a_conditional : {s m n r : Tokens} {a b c : Expression} → Spells O s (t.if_ ∷ m) a → Spells O m (t.else_ ∷ n) b → Spells E n r c → Spells E s r (x.Cond b a c)
    unconditional : {s r : Tokens} {e : Expression} → Spells O s r e → Spells E s r e
    -- L = E | E "," items
    a_tuple : {s m r : Tokens} {e : Expression} {es : Expressions} → Spells E s (t.comma ∷ m) e → Items m r es → Spells L s r (x.Tuple (x.more_expressions e es))
    single : {s r : Tokens} {e : Expression} → Spells E s r e → Spells L s r e

  -- items = {E ","} [E]
  pub data Items : Tokens → Tokens → Expressions → Type 0 where
    no_item : {r : Tokens} → Items r r x.end_of_expressions
    last_item : {s r : Tokens} {e : Expression} → Spells E s r e → Items s r (x.more_expressions e x.end_of_expressions)
    next_item : {s m r : Tokens} {e : Expression} {es : Expressions} → Spells E s (t.comma ∷ m) e → Items m r es → Items s r (x.more_expressions e es)

  -- pairs = {E ":" E ","} [E ":" E]
  pub data Entries : Tokens → Tokens → Pairs → Type 0 where
    no_pair : {r : Tokens} → Entries r r x.end_of_pairs
    last_pair : {s m r : Tokens} {k v : Expression} → Spells E s (t.colon ∷ m) k → Spells E m r v → Entries s r (x.more_pairs (x.Paired k v) x.end_of_pairs)
    next_pair : {s m n r : Tokens} {k v : Expression} {ps : Pairs} → Spells E s (t.colon ∷ m) k → Spells E m (t.comma ∷ n) v → Entries n r ps → Entries s r (x.more_pairs (x.Paired k v) ps)

  -- args = {E ","} [E] | {E ","} NAME "=" E {"," NAME "=" E} [","]
  pub data Arguments : Tokens → Tokens → Expressions → Keywords → Type 0 where
    no_argument : {r : Tokens} → Arguments r r x.end_of_expressions x.end_of_keywords
    last_argument : {s r : Tokens} {e : Expression} → Spells E s r e → Arguments s r (x.more_expressions e x.end_of_expressions) x.end_of_keywords
    next_argument : {s m r : Tokens} {e : Expression} {es : Expressions} {ks : Keywords} → Spells E s (t.comma ∷ m) e → Arguments m r es ks → Arguments s r (x.more_expressions e es) ks
    only_keywords : {s r : Tokens} {n : Text} {ks : Keywords} {e : Expression} → KeywordsAt s r (x.more_keywords (x.Named n e) ks) → Arguments s r x.end_of_expressions (x.more_keywords (x.Named n e) ks)

  -- {NAME "=" E ","} [NAME "=" E]
  pub data KeywordsAt : Tokens → Tokens → Keywords → Type 0 where
    no_keyword : {r : Tokens} → KeywordsAt r r x.end_of_keywords
    last_keyword : {s r : Tokens} {n : Text} {e : Expression} → Spells E s r e → KeywordsAt (token.Name n ∷ t.equal ∷ s) r (x.more_keywords (x.Named n e) x.end_of_keywords)
    next_keyword : {s m r : Tokens} {n : Text} {e : Expression} {ks : Keywords} → Spells E s (t.comma ∷ m) e → KeywordsAt m r ks → KeywordsAt (token.Name n ∷ t.equal ∷ s) r (x.more_keywords (x.Named n e) ks)
