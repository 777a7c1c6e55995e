-- The pieces of a text, and where none stands (Python reference: lexical analysis, line structure).
use Rattle.std.specs.Prelude.{◌≡◌, ℕ, ◌+◌, ◌-◌, ◌≤◌, ◌<◌, ◌==◌, Bool, true, false, if◌then◌else◌, nat_le, List, [], ◌∷◌, Some, None}
use Rattle.std.specs.List.{list_any, prefix_len}
use Rattle.py_tree.specs.Literals.{greatest_int}
use Rattle.py_tree.specs.declared.code.Code.{Code}
use Rattle.py_tree.specs.declared.code.Code.TheVariants as code
use Rattle.py_tree.specs.declared.fault.Fault.{Fault}
use Rattle.py_lexer.specs.declared.character.CharKind.TheVariants as kind
use Rattle.py_lexer.specs.declared.character.TokenKind.{TokenKind}
use Rattle.py_lexer.specs.declared.token.Token.{Token}
use Rattle.py_lexer.specs.declared.token.Token.TheVariants as token
use Rattle.py_lexer.specs.declared.token.Mark.TheVariants as mark
use Rattle.py_lexer.specs.declared.piece.Piece.{Piece}
use Rattle.py_lexer.specs.declared.piece.Piece.TheVariants as piece
use Rattle.py_lexer.specs.declared.piece.Place.{Place}
use Rattle.py_lexer.specs.Characters.{Text, is_blank, is_space, in_comment, kind_of, front, behind, between, line_feeds, after_line_end}
use Rattle.py_lexer.specs.Tokens.{TokenAt}

-- where a text begins
abbrev pub start : Place
start = record { fresh = true; depth = 0; tab = None; line = 1 }

-- behind the indentation: the line of a tab in it is kept
abbrev pub behind_indentation : Place → List ℕ → Place
behind_indentation p blanks = record p { fresh = false; tab = if list_any (λ c. c == 9) blanks then Some p.line else None }

-- behind a line end that stands behind a backslash
abbrev pub on_next_line : Place → Place
on_next_line p = record p { line = p.line + 1 }

-- behind any other line end: outside brackets a logical line begins
abbrev pub behind_line_end : Place → Place
behind_line_end p = record p { fresh = p.depth == 0; line = p.line + 1 }

abbrev pub line_end_at : Place → Piece
line_end_at p = if p.depth == 0 then piece.LineEnd else piece.JoinedLine

-- how many brackets are open behind a token
abbrev pub depth_behind : ℕ → Token → ℕ
depth_behind d (token.Mark mark.LeftParen) = d + 1
depth_behind d (token.Mark mark.LeftBracket) = d + 1
depth_behind d (token.Mark mark.LeftBrace) = d + 1
depth_behind d (token.Mark mark.RightParen) = d - 1
depth_behind d (token.Mark mark.RightBracket) = d - 1
depth_behind d (token.Mark mark.RightBrace) = d - 1
depth_behind d _ = d

-- behind a token, which may have line feeds in it
abbrev pub behind_token : Place → Token → List ℕ → Place
behind_token p t spelling = record p { depth = depth_behind p.depth t; line = p.line + line_feeds spelling }

-- whether an integer is an `int`
abbrev pub fits : Token → Bool
fits (token.Int n) = nat_le n greatest_int
fits _ = true

-- `PieceAt p s r q k`: at the place p the text s begins with the piece k, and r and the place q are behind it
pub data PieceAt (p : Place) : Text → Text → Place → Piece → Type 0 where
  an_indentation : {c : ℕ} {s : Text} → p.fresh ≡ true
      → PieceAt p (c ∷ s) (behind is_blank (c ∷ s)) (behind_indentation p (front is_blank (c ∷ s))) (piece.Indentation (prefix_len is_space (c ∷ s)) p.line)
  blanks : {c : ℕ} {s : Text} → p.fresh ≡ false → kind_of c ≡ kind.Blank → PieceAt p (c ∷ s) (behind is_blank s) p piece.Blanks
  a_comment : {c : ℕ} {s : Text} → p.fresh ≡ false → kind_of c ≡ kind.Hash → PieceAt p (c ∷ s) (behind in_comment s) p piece.Comment
  a_joined_line : {c : ℕ} {s r : Text} → p.fresh ≡ false → kind_of c ≡ kind.Backslash → after_line_end s ≡ Some r → PieceAt p (c ∷ s) r (on_next_line p) piece.JoinedLine
  a_line_end : {c : ℕ} {s r : Text} → p.fresh ≡ false → kind_of c ≡ kind.LineEnd → after_line_end (c ∷ s) ≡ Some r → PieceAt p (c ∷ s) r (behind_line_end p) (line_end_at p)
  a_token : {s r : Text} {t : Token} → p.fresh ≡ false → TokenAt s r t → fits t ≡ true → p.tab ≡ None → depth_behind p.depth t ≤ 100
      → PieceAt p s r (behind_token p t (between s r)) (piece.Token t)

abbrev pub fault : ℕ → Code → Fault
fault line code = record { line = line; code = code }

-- `NoPiece p s f`: at the place p a piece is wanted, s begins with none, and f is the fault
pub data NoPiece (p : Place) : Text → Fault → Type 0 where
  no_token : {c : ℕ} {s : Text} {k : TokenKind} → p.fresh ≡ false → kind_of c ≡ kind.Token k → ((r : Text) (t : Token) → TokenAt (c ∷ s) r t → ⊥) → NoPiece p (c ∷ s) (fault p.line code.BadToken)
  -- a carriage return without a line feed
  no_line_end : {c : ℕ} {s : Text} → p.fresh ≡ false → kind_of c ≡ kind.LineEnd → after_line_end (c ∷ s) ≡ None → NoPiece p (c ∷ s) (fault p.line code.BadToken)
  -- a backslash that joins no line
  no_joined_line : {c : ℕ} {s : Text} → p.fresh ≡ false → kind_of c ≡ kind.Backslash → after_line_end s ≡ None → NoPiece p (c ∷ s) (fault p.line code.BadToken)
  too_large : {s r : Text} {t : Token} → p.fresh ≡ false → TokenAt s r t → fits t ≡ false → NoPiece p s (fault p.line code.IntegerTooLarge)
  -- a tab in the indentation is at fault where a token stands behind it
  behind_tab : {s r : Text} {t : Token} {line : ℕ} → p.fresh ≡ false → TokenAt s r t → fits t ≡ true → p.tab ≡ Some line → NoPiece p s (fault line code.TabIndentation)
  too_deep : {s r : Text} {t : Token} → p.fresh ≡ false → TokenAt s r t → fits t ≡ true → p.tab ≡ None → 100 < depth_behind p.depth t → NoPiece p s (fault p.line code.TooDeep)

-- the pieces of a text from the place p on, to its end
pub data Pieces : Place → Text → List Piece → Type 0 where
  the_end : {p : Place} → Pieces p [] []
  a_piece : {p q : Place} {s r : Text} {k : Piece} {ks : List Piece} → PieceAt p s r q k → Pieces q r ks → Pieces p s (k ∷ ks)

-- the fault at the first place, from p on, where a piece is wanted and none stands
pub data FaultIn : Place → Text → Fault → Type 0 where
  here : {p : Place} {s : Text} {f : Fault} → NoPiece p s f → FaultIn p s f
  later : {p q : Place} {s r : Text} {k : Piece} {f : Fault} → PieceAt p s r q k → FaultIn q r f → FaultIn p s f
