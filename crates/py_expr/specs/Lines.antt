-- The grammar of a logical line, with a constructor for each alternative. `Thing s r y`: at the front of the tokens s stands a thing
-- that spells y, and the tokens r follow it. E and L are the levels of expressions, `{..}` is any number of times, `[..]` once or
-- not at all.
use Rattle.std.specs.Prelude.{◌≡◌, Bool, true, not, ◌&&◌, ◌||◌, List, [], ◌∷◌, Option, Some, None, is_some}
use Rattle.py_tree.specs.Syntax as x
use Rattle.py_tree.specs.Syntax.{Text, Expression, Param, Target, Kind}
use Rattle.py_tree.specs.declared.operator.BinaryOp.{BinaryOp}
use Rattle.py_tree.specs.declared.operator.BinaryOp.TheVariants as binary
use Rattle.py_tree.specs.declared.statement.Import.{Import}
use Rattle.py_lexer.specs.declared.token.Token.{Token}
use Rattle.py_lexer.specs.declared.token.Token.TheVariants as token
use Rattle.py_phrases.specs.Tokens as t
use Rattle.py_phrases.specs.Grammar.{Tokens, Spells, E, L}
use Rattle.py_expr.specs.Forms as form
use Rattle.py_expr.specs.Forms.{Form, Head}
use Rattle.py_phrases.specs.Targets.{Names, Place, Assigned}

-- ---- assignments

-- AUG
pub data Augmented : Token → BinaryOp → Type 0 where
  plus_equal : Augmented t.plus_equal binary.Add
  minus_equal : Augmented t.minus_equal binary.Sub
  star_equal : Augmented t.star_equal binary.Mul
  double_slash_equal : Augmented t.double_slash_equal binary.FloorDiv
  percent_equal : Augmented t.percent_equal binary.Mod

-- ---- parameters

-- [":" E]
pub data Annotation : Tokens → Tokens → Option Expression → Type 0 where
  unannotated : {r : Tokens} → Annotation r r None
  annotated : {s r : Tokens} {e : Expression} → Spells E s r e → Annotation (t.colon ∷ s) r (Some e)

-- ["=" E]
pub data Default : Tokens → Tokens → Option Expression → Type 0 where
  no_default : {r : Tokens} → Default r r None
  a_default : {s r : Tokens} {e : Expression} → Spells E s r e → Default (t.equal ∷ s) r (Some e)

-- param = NAME [":" E] ["=" E]
pub data Parameter : Tokens → Tokens → Param → Type 0 where
  a_parameter : {s m r : Tokens} {n : Text} {k d : Option Expression} → Annotation s m k → Default m r d → Parameter (token.Name n ∷ s) r (record { name = n; kind = k; default = d })

-- {param ","} [param]
pub data Parameters : Tokens → Tokens → List Param → Type 0 where
  no_parameter : {r : Tokens} → Parameters r r []
  last_parameter : {s r : Tokens} {p : Param} → Parameter s r p → Parameters s r (p ∷ [])
  next_parameter : {s m r : Tokens} {p : Param} {ps : List Param} → Parameter s (t.comma ∷ m) p → Parameters m r ps → Parameters s r (p ∷ ps)

abbrev pub all_have_defaults : List Param → Bool
all_have_defaults [] = true
all_have_defaults (p ∷ ps) = is_some p.default && all_have_defaults ps

-- no parameter without a default stands behind one with a default
abbrev pub defaults_last : List Param → Bool
defaults_last [] = true
defaults_last (p ∷ ps) = (not (is_some p.default) || all_have_defaults ps) && defaults_last ps

-- ["->" E] ":"
pub data Result : Tokens → Tokens → Option Expression → Type 0 where
  no_result : {r : Tokens} → Result (t.colon ∷ r) r None
  a_result : {s r : Tokens} {e : Expression} → Spells E s (t.colon ∷ r) e → Result (t.arrow ∷ s) r (Some e)

-- ["(" [NAME ["." NAME]] ")"] ":"
pub data Base : Tokens → Tokens → Option Expression → Type 0 where
  no_base : {r : Tokens} → Base (t.colon ∷ r) r None
  empty_base : {r : Tokens} → Base (t.left_paren ∷ t.right_paren ∷ t.colon ∷ r) r None
  named_base : {r : Tokens} {b : Text} → Base (t.left_paren ∷ token.Name b ∷ t.right_paren ∷ t.colon ∷ r) r (Some (x.Name b))
  dotted_base : {r : Tokens} {m b : Text} → Base (t.left_paren ∷ token.Name m ∷ t.dot ∷ token.Name b ∷ t.right_paren ∷ t.colon ∷ r) r (Some (x.Attr (x.Name m) b))

-- ---- heads

pub data HeadAt : Tokens → Tokens → Head → Type 0 where
  -- "if" E ":" | "elif" E ":" | "else" ":" | "while" E ":"
  an_if : {s r : Tokens} {e : Expression} → Spells E s (t.colon ∷ r) e → HeadAt (t.if_ ∷ s) r (form.If e)
  an_elif : {s r : Tokens} {e : Expression} → Spells E s (t.colon ∷ r) e → HeadAt (t.elif_ ∷ s) r (form.Elif e)
  an_else : {r : Tokens} → HeadAt (t.else_ ∷ t.colon ∷ r) r form.Else
  a_while : {s r : Tokens} {e : Expression} → Spells E s (t.colon ∷ r) e → HeadAt (t.while_ ∷ s) r (form.While e)
  -- "for" names "in" L ":"
  a_for : {s m r : Tokens} {g : Target} {e : Expression} → Names s (t.in_ ∷ m) g → Spells L m (t.colon ∷ r) e → HeadAt (t.for_ ∷ s) r (form.For g e)
  -- "try" ":" | "except" [E ["as" NAME]] ":"
  a_try : {r : Tokens} → HeadAt (t.try_ ∷ t.colon ∷ r) r form.Try
  an_except : {r : Tokens} → HeadAt (t.except_ ∷ t.colon ∷ r) r (form.Except None None)
  an_except_of : {s r : Tokens} {e : Expression} → Spells E s (t.colon ∷ r) e → HeadAt (t.except_ ∷ s) r (form.Except (Some e) None)
  an_except_as : {s r : Tokens} {e : Expression} {n : Text} → Spells E s (t.as_ ∷ token.Name n ∷ t.colon ∷ r) e → HeadAt (t.except_ ∷ s) r (form.Except (Some e) (Some n))
  -- "def" NAME "(" [params] ")" ["->" E] ":"
  a_def : {s m r : Tokens} {n : Text} {ps : List Param} {k : Option Expression} → Parameters s (t.right_paren ∷ m) ps → defaults_last ps ≡ true → Result m r k → HeadAt (t.def_ ∷ token.Name n ∷ t.left_paren ∷ s) r (form.Def n ps k)
  -- "class" NAME ["(" [NAME ["." NAME]] ")"] ":"
  a_class : {s r : Tokens} {n : Text} {b : Option Expression} → Base s r b → HeadAt (t.class_ ∷ token.Name n ∷ s) r (form.Class n b)

-- ---- simple statements

-- item = NAME ["as" NAME]
pub data Item : Tokens → Tokens → Import → Type 0 where
  an_item : {r : Tokens} {n : Text} → Item (token.Name n ∷ r) r (record { name = n; alias = None })
  an_item_as : {r : Tokens} {n a : Text} → Item (token.Name n ∷ t.as_ ∷ token.Name a ∷ r) r (record { name = n; alias = Some a })

-- item {"," item}
pub data ImportItems : Tokens → Tokens → List Import → Type 0 where
  last_import : {s r : Tokens} {i : Import} → Item s r i → ImportItems s r (i ∷ [])
  next_import : {s m r : Tokens} {i : Import} {is : List Import} → Item s (t.comma ∷ m) i → ImportItems m r is → ImportItems s r (i ∷ is)

-- item {"," item} | "(" item {"," item} [","] ")"
pub data Taken : Tokens → List Import → Type 0 where
  taken : {s : Tokens} {is : List Import} → ImportItems s [] is → Taken s is
  taken_in_parentheses : {s : Tokens} {is : List Import} → ImportItems s (t.right_paren ∷ []) is → Taken (t.left_paren ∷ s) is
  taken_with_comma : {s : Tokens} {is : List Import} → ImportItems s (t.comma ∷ t.right_paren ∷ []) is → Taken (t.left_paren ∷ s) is

-- ["=" L]
pub data Value : Tokens → Option Expression → Type 0 where
  no_value : Value [] None
  a_value : {s : Tokens} {e : Expression} → Spells L s [] e → Value (t.equal ∷ s) (Some e)

pub data Simple : Tokens → Kind → Type 0 where
  -- "pass" | "break" | "continue" | "return" [L] | "raise" [E]
  a_pass : Simple (t.pass_ ∷ []) x.Pass
  a_break : Simple (t.break_ ∷ []) x.Break
  a_continue : Simple (t.continue_ ∷ []) x.Continue
  a_return : Simple (t.return_ ∷ []) (x.Return None)
  a_return_of : {s : Tokens} {e : Expression} → Spells L s [] e → Simple (t.return_ ∷ s) (x.Return (Some e))
  a_raise : Simple (t.raise_ ∷ []) (x.Raise None)
  a_raise_of : {s : Tokens} {e : Expression} → Spells E s [] e → Simple (t.raise_ ∷ s) (x.Raise (Some e))
  -- "import" item {"," item} | "from" NAME "import" ..
  an_import : {s : Tokens} {is : List Import} → ImportItems s [] is → Simple (t.import_ ∷ s) (x.Imports is)
  a_from : {s : Tokens} {n : Text} {is : List Import} → Taken s is → Simple (t.from_ ∷ token.Name n ∷ t.import_ ∷ s) (x.From n is)
  -- L | target "=" L | (NAME | NAME "." NAME) ":" E ["=" L] | place AUG L
  an_expression : {s : Tokens} {e : Expression} → Spells L s [] e → Simple s (x.Eval e)
  an_assignment : {s m : Tokens} {g : Target} {e : Expression} → Assigned s (t.equal ∷ m) g → Spells L m [] e → Simple s (x.Assign g e)
  an_annotation : {s m : Tokens} {n : Text} {k : Expression} {v : Option Expression} → Spells E s m k → Value m v → Simple (token.Name n ∷ t.colon ∷ s) (x.Annotate (x.ToName n) k v)
  an_attribute_annotation : {s m : Tokens} {n a : Text} {k : Expression} {v : Option Expression} → Spells E s m k → Value m v → Simple (token.Name n ∷ t.dot ∷ token.Name a ∷ t.colon ∷ s) (x.Annotate (x.ToAttr (x.Name n) a) k v)
  an_augmentation : {s m : Tokens} {c : Token} {op : BinaryOp} {g : Target} {e : Expression} → Augmented c op → Place s (c ∷ m) g → Spells L m [] e → Simple s (x.Augment g op e)

-- line = head [simple] | simple
pub data Line : Tokens → Form → Type 0 where
  a_head : {s : Tokens} {h : Head} → HeadAt s [] h → Line s (form.Header h None)
  a_head_with : {s m : Tokens} {h : Head} {k : Kind} → HeadAt s m h → Simple m k → Line s (form.Header h (Some k))
  a_statement : {s : Tokens} {k : Kind} → Simple s k → Line s (form.Simple k)
