-- What holds of the grammar of expressions.
use Rattle.std.specs.Prelude.{◌≡◌, ◌∷◌, true}
use Rattle.py_tree.specs.Syntax as x
use Rattle.py_tree.specs.Syntax.{Expression}
use Rattle.py_tree.specs.Literals.{fits}
use Rattle.py_tree.specs.declared.operator.BinaryOp.{BinaryOp}
use Rattle.py_lexer.specs.declared.token.Token.{Token}
use Rattle.py_lexer.specs.Literals.{tokens_fit}
use Rattle.py_phrases.specs.Tokens as t
use Rattle.py_phrases.specs.Grammar.{Tokens, Level, U, M, S, N, A, O, L, Product, Sum, Spells}
use Rattle.py_phrases.specs.Ends.{IsEnd}

-- at most one phrase of a level stands at a front and ends where such a phrase may end
abbrev pub OnePhrase : Type 0
OnePhrase = (k : Level) (s r q : Tokens) (d e : Expression) → Spells k s r d → IsEnd k r → Spells k s q e → IsEnd k q → (d ≡ e) × (r ≡ q)

-- ---- grouping parentheses

-- in parentheses a phrase is one of every level, and spells what it spells without them
abbrev pub Grouped : Type 0
Grouped = (k : Level) (s r : Tokens) (e : Expression) → Spells L s (t.right_paren ∷ r) e → Spells k (t.left_paren ∷ s) r e

-- and nothing else, where the closing parenthesis is the end of a whole
abbrev pub GroupedAlone : Type 0
GroupedAlone = (k : Level) (s r q : Tokens) (d e : Expression) → Spells L s (t.right_paren ∷ r) d → IsEnd k r → Spells k (t.left_paren ∷ s) q e → IsEnd k q → (d ≡ e) × (r ≡ q)

-- ---- chains

-- `Chain i j c make`: the operator c has a chain of level i before it and an operand of level j behind it, and spells make of both
pub data Chain : Level → Level → Token → (Expression → Expression → Expression) → Type 0 where
  of_products : {c : Token} {op : BinaryOp} → Product c op → Chain M U c (x.Binary op)
  of_sums : {c : Token} {op : BinaryOp} → Sum c op → Chain S M c (x.Binary op)
  of_conjunctions : Chain A N t.and_ x.And
  of_disjunctions : Chain O A t.or_ x.Or

-- where two operators of one level stand behind a chain, the first is the left side of the second, and nothing else is spelled
abbrev pub LeftGrouped : Type 0
LeftGrouped =
    (i j : Level) (first second : Token) (make_first make_second : Expression → Expression → Expression) → Chain i j first make_first → Chain i j second make_second
    → (k : Level) (s m n r q : Tokens) (a b c e : Expression) → Spells i s (first ∷ m) a → Spells j m (second ∷ n) b → Spells j n r c → IsEnd k r
    → Spells k s q e → IsEnd k q → (make_second (make_first a b) c ≡ e) × (r ≡ q)

-- ---- literals

-- the literals of a phrase fit where those among its tokens do, and so do the tokens behind it
abbrev pub LiteralsFit : Type 0
LiteralsFit = (k : Level) (s r : Tokens) (e : Expression) → Spells k s r e → tokens_fit s ≡ true → (fits e ≡ true) × (tokens_fit r ≡ true)
