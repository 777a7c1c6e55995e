-- No definition of the language: a machine that reads a phrase token by token, which proofs and code share. It keeps what has been
-- opened, and the steps that build the tree, both newest first.
use Rattle.std.specs.Prelude.{ℕ, zero, suc, Bool, true, false, not, ◌&&◌, ◌||◌, nat_le, if◌then◌else◌, length, List, [], ◌∷◌, Option, Some, None}
use Rattle.std.specs.Str.{bytes_eq}
use Rattle.py_tree.specs.Syntax.{Text}
use Rattle.py_tree.specs.declared.operator.UnaryOp.{UnaryOp}
use Rattle.py_tree.specs.declared.operator.UnaryOp.TheVariants as unary
use Rattle.py_tree.specs.declared.operator.BinaryOp.{BinaryOp}
use Rattle.py_tree.specs.declared.operator.BinaryOp.TheVariants as binary
use Rattle.py_tree.specs.declared.operator.CompareOp.{CompareOp}
use Rattle.py_tree.specs.declared.operator.CompareOp.TheVariants as compare
use Rattle.py_tree.specs.declared.operator.Const.{Const}
use Rattle.py_tree.specs.declared.operator.Const.TheVariants as constant
use Rattle.py_lexer.specs.declared.token.Token.{Token}
use Rattle.py_lexer.specs.declared.token.Token.TheVariants as token
use Rattle.py_lexer.specs.declared.token.Keyword.TheVariants as word
use Rattle.py_lexer.specs.declared.token.Mark.TheVariants as mark
use Rattle.py_phrases.specs.Grammar.{Tokens, Level, L}

-- what has been opened and waits for an expression; a number counts the items before a comma
pub data Frame : Type 0 where
  Line : ℕ → Frame  -- the whole phrase, of level L
  Lone : Frame  -- the whole phrase, of level E
  Group : ℕ → Frame  -- behind `(`
  Index : ℕ → Frame  -- behind a primary and `[`
  Listed : ℕ → Frame  -- behind `[`
  Entry : ℕ → Frame  -- behind `{`: a key is wanted
  Value : ℕ → Frame  -- behind a key and `:`
  Call : ℕ → Frame  -- behind a primary and `(`
  Key : Text → Frame  -- behind NAME `=` of a call
  Named : Text → Frame  -- behind a keyword argument and its comma
  Sign : UnaryOp → Frame
  Product : BinaryOp → Frame
  Sum : BinaryOp → Frame
  Compare : CompareOp → Frame
  Negation : Frame
  And : Frame
  Or : Frame
  Test : Frame  -- behind `if`
  Other : Frame  -- behind `else`

-- a step of building trees on a stack of trees
pub data Step : Type 0 where
  PutName : Text → Step
  PutInt : ℕ → Step
  PutText : Text → Step
  JoinText : Text → Step  -- to the text on the stack
  PutConstant : Const → Step
  Grouped : Step  -- the tree on the stack stands in parentheses
  MakeTuple : ℕ → Step  -- of that many trees
  MakeList : ℕ → Step
  MakeDict : ℕ → Step  -- of that many keys with their values
  MakeUnary : UnaryOp → Step
  MakeBinary : BinaryOp → Step
  MakeCompare : CompareOp → Step
  MakeIs : Bool → Const → Step
  MakeNot : Step
  MakeAnd : Step
  MakeOr : Step
  MakeCond : Step
  MakeAttr : Text → Step
  MakeIndex : Step
  MakeCall : ℕ → ℕ → Step  -- of that many arguments, and of that many names with their values

pub data Mode : Type 0 where
  Want : Mode  -- an expression is wanted
  Next : Mode  -- an expression is wanted, or the bracket closes
  Have : Mode  -- a primary has been read
  Dotted : Mode  -- behind `.`
  NotIn : Mode  -- behind the `not` of `not in`
  Is : Mode  -- behind `is`
  IsNot : Mode  -- behind `is not`
  Compared : Mode  -- a comparison with a constant has been read

abbrev pub Frames : Type 0
Frames = List Frame

abbrev pub Steps : Type 0
Steps = List Step

pub record State : Type 0 where
  pub mode : Mode
  pub frames : Frames
  pub steps : Steps

-- open frames and steps
pub record Done : Type 0 where
  pub frames : Frames
  pub steps : Steps

abbrev pub state : Mode → Frames → Steps → State
state mode fs o = record { mode = mode; frames = fs; steps = o }

abbrev pub done : Frames → Steps → Done
done fs o = record { frames = fs; steps = o }

-- ---- levels by number: 1 for U, 2 M, 3 S, 4 C, 5 N, 6 A, 7 O, 8 E

-- the loosest level that may stand behind the frame
abbrev pub wants_behind : Frame → ℕ
wants_behind (Sign op) = 1
wants_behind (Product op) = 1
wants_behind (Sum op) = 2
wants_behind (Compare op) = 3
wants_behind Negation = 5
wants_behind And = 5
wants_behind Or = 6
wants_behind Test = 7
wants_behind _ = 8

abbrev pub wants : Frames → ℕ
wants [] = 0
wants (f ∷ fs) = wants_behind f

-- the level of what the frame makes with its last operand; 9 where its end is a token
abbrev pub makes : Frame → ℕ
makes (Sign op) = 1
makes (Product op) = 2
makes (Sum op) = 3
makes (Compare op) = 4
makes Negation = 5
makes And = 6
makes Or = 7
makes Other = 8
makes _ = 9

-- with the step that makes it
abbrev pub made : Frame → Steps → Steps
made (Sign op) o = MakeUnary op ∷ o
made (Product op) o = MakeBinary op ∷ o
made (Sum op) o = MakeBinary op ∷ o
made (Compare op) o = MakeCompare op ∷ o
made Negation o = MakeNot ∷ o
made And o = MakeAnd ∷ o
made Or o = MakeOr ∷ o
made Other o = MakeCond ∷ o
made _ o = o

-- after a phrase of the level has ended
abbrev pub close : ℕ → Frames → Steps → Done
close level [] o = done [] o
close level (f ∷ fs) o = if nat_le (makes f) level then close level fs (made f o) else done (f ∷ fs) o

abbrev pub after : (Frames → Steps → Option State) → Done → Option State
after next d = next d.frames d.steps

-- ---- where an expression is wanted

abbrev pub negation : Frames → Steps → Option State
negation fs o = if nat_le 5 (wants fs) then Some (state Want (Negation ∷ fs) o) else None

abbrev pub operand : Frames → Steps → Token → Option State
operand fs o (token.Name n) = Some (state Have fs (PutName n ∷ o))
operand fs o (token.Int n) = Some (state Have fs (PutInt n ∷ o))
operand fs o (token.Str u) = Some (state Have fs (PutText u ∷ o))
operand fs o (token.Word word.None) = Some (state Have fs (PutConstant constant.Nil ∷ o))
operand fs o (token.Word word.True) = Some (state Have fs (PutConstant constant.True ∷ o))
operand fs o (token.Word word.False) = Some (state Have fs (PutConstant constant.False ∷ o))
operand fs o (token.Word word.Not) = negation fs o
operand fs o (token.Mark mark.Minus) = Some (state Want (Sign unary.Minus ∷ fs) o)
operand fs o (token.Mark mark.Plus) = Some (state Want (Sign unary.Plus ∷ fs) o)
operand fs o (token.Mark mark.LeftParen) = Some (state Next (Group 0 ∷ fs) o)
operand fs o (token.Mark mark.LeftBracket) = Some (state Next (Listed 0 ∷ fs) o)
operand fs o (token.Mark mark.LeftBrace) = Some (state Next (Entry 0 ∷ fs) o)
operand fs o _ = None

abbrev pub has_name : Text → List Text → Bool
has_name name [] = false
has_name name (other ∷ names) = bytes_eq name other || has_name name names

abbrev pub no_repeats : List Text → Bool
no_repeats [] = true
no_repeats (name ∷ names) = not (has_name name names) && no_repeats names

-- the call whose keyword arguments have these names
abbrev pub called : ℕ → List Text → Frames → Steps → Option State
called n names fs o = if no_repeats names then Some (state Have fs (MakeCall n (length names) ∷ o)) else None

-- behind the last keyword argument
abbrev pub call : List Text → Frames → Steps → Option State
call names (Named name ∷ fs) o = call (name ∷ names) fs o
call names (Call n ∷ fs) o = called n names fs o
call names _ o = None

abbrev pub paren_after_comma : Frames → Steps → Option State
paren_after_comma (Group zero ∷ fs) o = Some (state Have fs (MakeTuple 0 ∷ o))
paren_after_comma (Group (suc n) ∷ fs) o = Some (state Have fs (Grouped ∷ MakeTuple (suc n) ∷ o))
paren_after_comma (Call n ∷ fs) o = Some (state Have fs (MakeCall n 0 ∷ o))
paren_after_comma (Named name ∷ fs) o = call (name ∷ []) fs o
paren_after_comma _ o = None

abbrev pub bracket_after_comma : Frames → Steps → Option State
bracket_after_comma (Index (suc n) ∷ fs) o = Some (state Have fs (MakeIndex ∷ MakeTuple (suc n) ∷ o))
bracket_after_comma (Listed n ∷ fs) o = Some (state Have fs (MakeList n ∷ o))
bracket_after_comma _ o = None

abbrev pub brace_after_comma : Frames → Steps → Option State
brace_after_comma (Entry n ∷ fs) o = Some (state Have fs (MakeDict n ∷ o))
brace_after_comma _ o = None

abbrev pub operand_or_end : Frames → Steps → Token → Option State
operand_or_end fs o (token.Mark mark.RightParen) = paren_after_comma fs o
operand_or_end fs o (token.Mark mark.RightBracket) = bracket_after_comma fs o
operand_or_end fs o (token.Mark mark.RightBrace) = brace_after_comma fs o
operand_or_end fs o token = operand fs o token

-- ---- behind an expression

-- the operators that bind tighter than `not`, and those that bind looser
abbrev pub tight : Token → Option Frame
tight (token.Mark mark.Star) = Some (Product binary.Mul)
tight (token.Mark mark.DoubleSlash) = Some (Product binary.FloorDiv)
tight (token.Mark mark.Percent) = Some (Product binary.Mod)
tight (token.Mark mark.Plus) = Some (Sum binary.Add)
tight (token.Mark mark.Minus) = Some (Sum binary.Sub)
tight (token.Mark mark.EqualEqual) = Some (Compare compare.Eq)
tight (token.Mark mark.NotEqual) = Some (Compare compare.Ne)
tight (token.Mark mark.Less) = Some (Compare compare.Lt)
tight (token.Mark mark.LessEqual) = Some (Compare compare.Le)
tight (token.Mark mark.Greater) = Some (Compare compare.Gt)
tight (token.Mark mark.GreaterEqual) = Some (Compare compare.Ge)
tight (token.Word word.In) = Some (Compare compare.In)
tight _ = None

abbrev pub loose : Token → Option Frame
loose (token.Word word.And) = Some And
loose (token.Word word.Or) = Some Or
loose (token.Word word.If) = Some Test
loose _ = None

-- the level of the frame's left operand
abbrev pub left_of : Frame → ℕ
left_of (Product op) = 2
left_of (Sum op) = 3
left_of (Compare op) = 3
left_of And = 6
left_of _ = 7

-- the level that must be wanted where the frame's phrase stands
abbrev pub stands_at : Frame → ℕ
stands_at (Product op) = 2
stands_at (Sum op) = 3
stands_at (Compare op) = 4
stands_at And = 6
stands_at Or = 7
stands_at _ = 8

abbrev pub push : Frame → Frames → Steps → Option State
push f fs o = if nat_le (stands_at f) (wants fs) then Some (state Want (f ∷ fs) o) else None

abbrev pub operator : Frame → Frames → Steps → Option State
operator f fs o = after (push f) (close (left_of f) fs o)

-- a comparison of two words
abbrev pub compared_by : Mode → Frames → Steps → Option State
compared_by mode fs o = if nat_le 4 (wants fs) then Some (state mode fs o) else None

abbrev pub other : Frames → Steps → Option State
other (Test ∷ fs) o = Some (state Want (Other ∷ fs) o)
other fs o = None

abbrev pub comma : Frames → Steps → Option State
comma (Line n ∷ fs) o = Some (state Next (Line (suc n) ∷ fs) o)
comma (Group n ∷ fs) o = Some (state Next (Group (suc n) ∷ fs) o)
comma (Index n ∷ fs) o = Some (state Next (Index (suc n) ∷ fs) o)
comma (Listed n ∷ fs) o = Some (state Next (Listed (suc n) ∷ fs) o)
comma (Value n ∷ fs) o = Some (state Next (Entry (suc n) ∷ fs) o)
comma (Call n ∷ fs) o = Some (state Next (Call (suc n) ∷ fs) o)
comma (Key name ∷ fs) o = Some (state Next (Named name ∷ fs) o)
comma fs o = None

-- the items before the last comma, and one behind it
abbrev pub listed : ℕ → Steps → Steps
listed zero o = o
listed (suc n) o = MakeTuple (suc (suc n)) ∷ o

abbrev pub paren : Frames → Steps → Option State
paren (Group n ∷ fs) o = Some (state Have fs (Grouped ∷ listed n o))
paren (Call n ∷ fs) o = Some (state Have fs (MakeCall (suc n) 0 ∷ o))
paren (Key name ∷ fs) o = call (name ∷ []) fs o
paren fs o = None

abbrev pub bracket : Frames → Steps → Option State
bracket (Index n ∷ fs) o = Some (state Have fs (MakeIndex ∷ listed n o))
bracket (Listed n ∷ fs) o = Some (state Have fs (MakeList (suc n) ∷ o))
bracket fs o = None

abbrev pub brace : Frames → Steps → Option State
brace (Value n ∷ fs) o = Some (state Have fs (MakeDict (suc n) ∷ o))
brace fs o = None

abbrev pub colon : Frames → Steps → Option State
colon (Entry n ∷ fs) o = Some (state Want (Value n ∷ fs) o)
colon fs o = None

abbrev pub in_call : Frames → Bool
in_call (Call n ∷ fs) = true
in_call (Named name ∷ fs) = true
in_call _ = false

abbrev pub named : Frames → Steps → Option State
named fs (PutName name ∷ o) = Some (state Want (Key name ∷ fs) (PutName name ∷ o))
named fs _ = None

abbrev pub equal : Frames → Steps → Option State
equal fs o = if in_call fs then named fs o else None

abbrev pub joined : Text → Frames → Steps → Option State
joined v fs (PutText u ∷ o) = Some (state Have fs (JoinText v ∷ PutText u ∷ o))
joined v fs (JoinText u ∷ o) = Some (state Have fs (JoinText v ∷ JoinText u ∷ o))
joined v fs _ = None

abbrev pub push_if : Option Frame → Frames → Steps → Option State
push_if (Some f) fs o = push f fs o
push_if None fs o = None

-- the level that ends before the token, if it ends one
abbrev pub left_of_if : Option Frame → Option ℕ
left_of_if (Some f) = Some (left_of f)
left_of_if None = None

abbrev pub or_left_of : Option Frame → Option ℕ → Option ℕ
or_left_of (Some f) level = Some (left_of f)
or_left_of None level = level

abbrev pub closes_before : Token → Option ℕ
closes_before (token.Word word.Not) = Some 3
closes_before (token.Word word.Is) = Some 3
closes_before (token.Word word.Else) = Some 7
closes_before (token.Mark mark.Comma) = Some 8
closes_before (token.Mark mark.RightParen) = Some 8
closes_before (token.Mark mark.RightBracket) = Some 8
closes_before (token.Mark mark.RightBrace) = Some 8
closes_before (token.Mark mark.Colon) = Some 8
closes_before token = or_left_of (tight token) (left_of_if (loose token))

abbrev pub close_if : Option ℕ → Frames → Steps → Done
close_if (Some level) fs o = close level fs o
close_if None fs o = done fs o

abbrev pub closed_before : Token → Frames → Steps → Done
closed_before token fs o = close_if (closes_before token) fs o

-- behind a comparison that has been closed
abbrev pub goes_loose : Token → Frames → Steps → Option State
goes_loose (token.Word word.Else) fs o = other fs o
goes_loose (token.Mark mark.Comma) fs o = comma fs o
goes_loose (token.Mark mark.RightParen) fs o = paren fs o
goes_loose (token.Mark mark.RightBracket) fs o = bracket fs o
goes_loose (token.Mark mark.RightBrace) fs o = brace fs o
goes_loose (token.Mark mark.Colon) fs o = colon fs o
goes_loose token fs o = push_if (loose token) fs o

abbrev pub goes_tight : Option Frame → Token → Frames → Steps → Option State
goes_tight (Some f) token fs o = push f fs o
goes_tight None token fs o = goes_loose token fs o

-- behind a primary that has been closed
abbrev pub goes : Token → Frames → Steps → Option State
goes (token.Str v) fs o = joined v fs o
goes (token.Mark mark.Dot) fs o = Some (state Dotted fs o)
goes (token.Mark mark.LeftBracket) fs o = Some (state Next (Index 0 ∷ fs) o)
goes (token.Mark mark.LeftParen) fs o = Some (state Next (Call 0 ∷ fs) o)
goes (token.Mark mark.Equal) fs o = equal fs o
goes (token.Word word.Not) fs o = compared_by NotIn fs o
goes (token.Word word.Is) fs o = compared_by Is fs o
goes token fs o = goes_tight (tight token) token fs o

-- behind a comparison
abbrev pub follow : Frames → Steps → Token → Option State
follow fs o token = after (goes_loose token) (closed_before token fs o)

-- behind a primary
abbrev pub behind : Frames → Steps → Token → Option State
behind fs o token = after (goes token) (closed_before token fs o)

abbrev pub dotted : Frames → Steps → Token → Option State
dotted fs o (token.Name n) = Some (state Have fs (MakeAttr n ∷ o))
dotted fs o _ = None

abbrev pub not_in : Frames → Steps → Token → Option State
not_in fs o (token.Word word.In) = Some (state Want (Compare compare.NotIn ∷ fs) o)
not_in fs o _ = None

abbrev pub constant_of : Token → Option Const
constant_of (token.Word word.None) = Some constant.Nil
constant_of (token.Word word.True) = Some constant.True
constant_of (token.Word word.False) = Some constant.False
constant_of _ = None

abbrev pub is_constant : Bool → Option Const → Frames → Steps → Option State
is_constant negated (Some k) fs o = Some (state Compared fs (MakeIs negated k ∷ o))
is_constant negated None fs o = None

abbrev pub is : Frames → Steps → Token → Option State
is fs o (token.Word word.Not) = Some (state IsNot fs o)
is fs o token = is_constant false (constant_of token) fs o

abbrev pub step : Mode → Frames → Steps → Token → Option State
step Want fs o token = operand fs o token
step Next fs o token = operand_or_end fs o token
step Have fs o token = behind fs o token
step Dotted fs o token = dotted fs o token
step NotIn fs o token = not_in fs o token
step Is fs o token = is fs o token
step IsNot fs o token = is_constant true (constant_of token) fs o
step Compared fs o token = follow fs o token

-- ---- at the end

abbrev pub ended : Frames → Steps → Option Steps
ended (Line n ∷ []) o = Some (listed n o)
ended (Lone ∷ []) o = Some o
ended fs o = None

abbrev pub ended_at : Done → Option Steps
ended_at d = ended d.frames d.steps

abbrev pub ended_after_comma : Frames → Steps → Option Steps
ended_after_comma (Line (suc n) ∷ []) o = Some (MakeTuple (suc n) ∷ o)
ended_after_comma _ o = None

abbrev pub finish : Mode → Frames → Steps → Option Steps
finish Next fs o = ended_after_comma fs o
finish Have fs o = ended_at (close 8 fs o)
finish Compared fs o = ended_at (close 8 fs o)
finish _ fs o = None

-- what has been read, and what follows it
pub record Read : Type 0 where
  pub steps : Steps
  pub rest : Tokens

abbrev pub read_to : Steps → Tokens → Read
read_to o r = record { steps = o; rest = r }

abbrev pub with_rest : Tokens → Option Steps → Option Read
with_rest r None = None
with_rest r (Some o) = Some (read_to o r)

-- an L may end before the token
abbrev pub ends_list : Token → Bool
ends_list (token.Mark mark.Equal) = true
ends_list (token.Mark mark.Colon) = true
ends_list (token.Mark mark.PlusEqual) = true
ends_list (token.Mark mark.MinusEqual) = true
ends_list (token.Mark mark.StarEqual) = true
ends_list (token.Mark mark.DoubleSlashEqual) = true
ends_list (token.Mark mark.PercentEqual) = true
ends_list _ = false

-- a lone E may end before the token
abbrev pub ends_lone : Token → Bool
ends_lone (token.Mark mark.Colon) = true
ends_lone (token.Mark mark.Comma) = true
ends_lone (token.Mark mark.RightParen) = true
ends_lone (token.Mark mark.Equal) = true
ends_lone (token.Mark mark.RightArrow) = true
ends_lone (token.Word word.As) = true
ends_lone _ = false

abbrev pub ends : Level → Token → Bool
ends L = ends_list
ends _ = ends_lone

-- where the machine stops before the tokens r
abbrev pub stop : Bool → Mode → Frames → Steps → Tokens → Option Read
stop true mode fs o r = with_rest r (finish mode fs o)
stop false mode fs o r = None

abbrev pub go_on : Option State → (Mode → Frames → Steps → Option Read) → Option Read → Option Read
go_on None rest stopped = stopped
go_on (Some s) rest stopped = rest s.mode s.frames s.steps

abbrev pub run : Level → Tokens → Mode → Frames → Steps → Option Read
run k [] mode fs o = with_rest [] (finish mode fs o)
run k (token ∷ tokens) mode fs o = go_on (step mode fs o token) (run k tokens) (stop (ends k token) mode fs o (token ∷ tokens))

abbrev pub bottom : Level → Frame
bottom L = Line 0
bottom _ = Lone

-- the phrase of level E or L at the front
abbrev pub read : Level → Tokens → Option Read
read k tokens = run k tokens Next (bottom k ∷ []) []
