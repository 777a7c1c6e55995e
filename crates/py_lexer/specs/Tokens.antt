-- The tokens of a text (Python reference: lexical analysis).
use Rattle.std.specs.Prelude.{◌≡◌, ℕ, ◌==◌, Bool, true, false, if◌then◌else◌, List, [], ◌∷◌, codes, Option, Some, None}
use Rattle.std.specs.List.{find}
use Rattle.std.specs.Option.{option_map}
use Rattle.std.specs.Str.{bytes_eq}
use Rattle.unicode_ident.specs.Ident.{is_xid_continue}
use Rattle.unicode_normalization.specs.Forms.{is_in_form}
use Rattle.unicode_normalization.specs.declared.Form.TheVariants.{Nfkc}
use Rattle.py_lexer.specs.declared.character.CharKind.TheVariants as kind
use Rattle.py_lexer.specs.declared.character.TokenKind.TheVariants as token_kind
use Rattle.py_lexer.specs.declared.token.Token.{Token}
use Rattle.py_lexer.specs.declared.token.Token.TheVariants as token
use Rattle.py_lexer.specs.declared.token.Keyword.{Keyword}
use Rattle.py_lexer.specs.declared.token.Keyword.TheVariants as word
use Rattle.py_lexer.specs.declared.token.Mark.{Mark}
use Rattle.py_lexer.specs.declared.token.Mark.TheVariants as mark
use Rattle.py_lexer.specs.Characters.{Text, kind_of, is_quote, front, behind}
use Rattle.py_lexer.specs.Integers.{in_number, Integer}
use Rattle.py_lexer.specs.Strings.{opening, Parts}

-- ---- keywords

abbrev pub keywords : List (List ℕ × Keyword)
keywords =
    (codes "False", word.False) ∷ (codes "None", word.None) ∷ (codes "True", word.True) ∷ (codes "and", word.And) ∷ (codes "as", word.As)
    ∷ (codes "assert", word.Assert) ∷ (codes "async", word.Async) ∷ (codes "await", word.Await) ∷ (codes "break", word.Break) ∷ (codes "class", word.Class)
    ∷ (codes "continue", word.Continue) ∷ (codes "def", word.Def) ∷ (codes "del", word.Del) ∷ (codes "elif", word.Elif) ∷ (codes "else", word.Else)
    ∷ (codes "except", word.Except) ∷ (codes "finally", word.Finally) ∷ (codes "for", word.For) ∷ (codes "from", word.From) ∷ (codes "global", word.Global)
    ∷ (codes "if", word.If) ∷ (codes "import", word.Import) ∷ (codes "in", word.In) ∷ (codes "is", word.Is) ∷ (codes "lambda", word.Lambda)
    ∷ (codes "nonlocal", word.Nonlocal) ∷ (codes "not", word.Not) ∷ (codes "or", word.Or) ∷ (codes "pass", word.Pass) ∷ (codes "raise", word.Raise)
    ∷ (codes "return", word.Return) ∷ (codes "try", word.Try) ∷ (codes "while", word.While) ∷ (codes "with", word.With) ∷ (codes "yield", word.Yield) ∷ []

abbrev pub keyword_among : List (List ℕ × Keyword) → List ℕ → Option Keyword
keyword_among rows name = option_map (λ e. e.1) (find (λ e. bytes_eq e.0 name) rows)

abbrev pub keyword_of : List ℕ → Option Keyword
keyword_of = keyword_among keywords

-- the token of a name: a keyword is no identifier
abbrev pub named_or : Option Keyword → List ℕ → Token
named_or (Some word) name = token.Word word
named_or None name = token.Name name

abbrev pub named : List ℕ → Token
named name = named_or (keyword_of name) name

-- ---- operators and delimiters

-- the longer ones first
abbrev pub marks : List (List ℕ × Mark)
marks =
    (codes "//=", mark.DoubleSlashEqual) ∷ (codes "==", mark.EqualEqual) ∷ (codes "!=", mark.NotEqual) ∷ (codes "<=", mark.LessEqual)
    ∷ (codes ">=", mark.GreaterEqual) ∷ (codes "+=", mark.PlusEqual) ∷ (codes "-=", mark.MinusEqual) ∷ (codes "*=", mark.StarEqual)
    ∷ (codes "%=", mark.PercentEqual) ∷ (codes "->", mark.RightArrow) ∷ (codes "//", mark.DoubleSlash) ∷ (codes "+", mark.Plus)
    ∷ (codes "-", mark.Minus) ∷ (codes "*", mark.Star) ∷ (codes "%", mark.Percent) ∷ (codes "<", mark.Less)
    ∷ (codes ">", mark.Greater) ∷ (codes "=", mark.Equal) ∷ (codes "(", mark.LeftParen) ∷ (codes ")", mark.RightParen)
    ∷ (codes "[", mark.LeftBracket) ∷ (codes "]", mark.RightBracket) ∷ (codes "{", mark.LeftBrace) ∷ (codes "}", mark.RightBrace)
    ∷ (codes ",", mark.Comma) ∷ (codes ":", mark.Colon) ∷ (codes ".", mark.Dot) ∷ []

-- what is behind a spelling at the front, if it stands there
abbrev pub after_spelling : List ℕ → Text → Option Text
after_spelling [] s = Some s
after_spelling (c ∷ spelling) [] = None
after_spelling (c ∷ spelling) (d ∷ s) = if d == c then after_spelling spelling s else None

pub record MarkAt : Type 0 where
  pub mark : Mark
  pub rest : Text

abbrev pub mark_or : Mark → Option Text → Option MarkAt → Option MarkAt
mark_or m None other = other
mark_or m (Some r) other = Some (record { mark = m; rest = r })

-- the first of them with which a text begins, so the longest, and what is behind it
abbrev pub first_mark : List (List ℕ × Mark) → Text → Option MarkAt
first_mark [] s = None
first_mark (e ∷ es) s = mark_or e.1 (after_spelling e.0 s) (first_mark es s)

-- ---- tokens

abbrev pub begins_with_quote : Text → Bool
begins_with_quote [] = false
begins_with_quote (c ∷ s) = is_quote c

-- `TokenAt s r t`: s begins with the token t, and r is behind it
pub data TokenAt : Text → Text → Token → Type 0 where
  -- a name is in NFKC, and no quote touches it
  a_name : {c : ℕ} {s : Text} → kind_of c ≡ kind.Token token_kind.Name → is_in_form Nfkc (c ∷ front is_xid_continue s) ≡ true → begins_with_quote (behind is_xid_continue s) ≡ false
      → TokenAt (c ∷ s) (behind is_xid_continue s) (named (c ∷ front is_xid_continue s))
  -- of any value
  an_integer : {c n : ℕ} {s : Text} → kind_of c ≡ kind.Token token_kind.Integer → Integer (c ∷ front in_number s) n → TokenAt (c ∷ s) (behind in_number s) (token.Int n)
  a_string : {c : ℕ} {s r : Text} {cs : List ℕ} → kind_of c ≡ kind.Token token_kind.String → Parts (opening c s).quotes (opening c s).rest r cs → TokenAt (c ∷ s) r (token.Str cs)
  a_mark : {c : ℕ} {s : Text} {x : MarkAt} → kind_of c ≡ kind.Token token_kind.Mark → first_mark marks (c ∷ s) ≡ Some x → TokenAt (c ∷ s) x.rest (token.Mark x.mark)
