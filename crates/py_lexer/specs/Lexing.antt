-- What a text lexes to: its logical lines, or the first fault in it.
use Rattle.std.specs.Prelude.{◌≡◌, ℕ, ◌+◌, ◌≤◌, ◌<◌, ◌==◌, if◌then◌else◌, List, [], ◌∷◌, ◌++◌, take, length, chars, IsUtf8, Result, Ok, Err, map}
use Rattle.std.specs.Str.{IsValidUpTo}
use Rattle.py_tree.specs.declared.code.Code.TheVariants as code
use Rattle.py_tree.specs.declared.fault.Fault.{Fault}
use Rattle.py_tree.specs.declared.fault.Stop.{Stop}
use Rattle.py_tree.specs.declared.fault.Stop.TheVariants as stop
use Rattle.py_lexer.specs.declared.piece.Piece.{Piece}
use Rattle.py_lexer.specs.declared.piece.Place.{Place}
use Rattle.py_lexer.specs.declared.piece.Piece.TheVariants as piece
use Rattle.py_lexer.specs.declared.token.Token.{Token}
use Rattle.py_lexer.specs.declared.token.LogicalLine.{LogicalLine}
use Rattle.py_lexer.specs.Characters.{Text, line_feeds}
use Rattle.py_lexer.specs.Names as names
use Rattle.py_lexer.specs.Tokens as tokens
use Rattle.py_lexer.specs.Pieces.{start, fault, PieceAt, Pieces, FaultIn}

-- the tokens of a logical line: those before the next indentation
abbrev pub tokens_of : List Piece → List Token
tokens_of [] = []
tokens_of (piece.Indentation spaces line ∷ ks) = []
tokens_of (piece.Token t ∷ ks) = t ∷ tokens_of ks
tokens_of (_ ∷ ks) = tokens_of ks

-- a logical line without a token doesn't count
abbrev pub line_of : ℕ → ℕ → List Token → List LogicalLine
line_of indent line [] = []
line_of indent line (t ∷ ts) = record { indent = indent; line = line; tokens = t ∷ ts } ∷ []

-- each indentation begins a logical line
abbrev pub lines_of : List Piece → List LogicalLine
lines_of [] = []
lines_of (piece.Indentation spaces line ∷ ks) = line_of spaces line (tokens_of ks) ++ lines_of ks
lines_of (_ ∷ ks) = lines_of ks

-- a text without U+FEFF at its start
abbrev pub without_mark : Text → Text
without_mark [] = []
without_mark (c ∷ s) = if c == 65279 then s else c ∷ s

abbrev pub greatest_size : ℕ
greatest_size = 1048576

-- `Lexes bytes (Ok lines)`: the bytes lex to these logical lines. `Lexes bytes (Err f)`: they are at fault, and f is their first fault.
pub data Lexes (bytes : List ℕ) : Result (List LogicalLine) Fault → Type 0 where
  too_large : greatest_size < length bytes → Lexes bytes (Err (fault 1 code.FileTooLarge))
  -- on the line of the first byte that isn't UTF-8
  no_text : {n : ℕ} → length bytes ≤ greatest_size → IsValidUpTo bytes n → ¬ (IsUtf8 bytes) → Lexes bytes (Err (fault (1 + line_feeds (take n bytes)) code.BadEncoding))
  at_fault : {f : Fault} → length bytes ≤ greatest_size → IsUtf8 bytes → FaultIn start (without_mark (chars bytes)) f → Lexes bytes (Err f)
  in_lines : {ks : List Piece} → length bytes ≤ greatest_size → IsUtf8 bytes → Pieces start (without_mark (chars bytes)) ks → Lexes bytes (Ok (lines_of ks))

-- What is answered is so. Want of memory says nothing of the bytes.
abbrev pub IsSo : List ℕ → Result (List LogicalLine) Stop → Type 0
IsSo bytes (Ok lines) = Lexes bytes (Ok lines)
IsSo bytes (Err (stop.Fault f)) = Lexes bytes (Err f)
IsSo bytes (Err (stop.Memory e)) = Unit {0}

-- What is so is answered, unless memory runs out.
abbrev pub IsAnswered : List ℕ → Result (List LogicalLine) Stop → Type 0
IsAnswered bytes (Ok lines) = (r : Result (List LogicalLine) Fault) → Lexes bytes r → r ≡ Ok lines
IsAnswered bytes (Err (stop.Fault f)) = (r : Result (List LogicalLine) Fault) → Lexes bytes r → r ≡ Err f
IsAnswered bytes (Err (stop.Memory e)) = Unit {0}

-- what stands at the front of s, and then r, is s
abbrev pub IsFront : Text → Text → Type 0
IsFront s r = (cs : List ℕ) × (s ≡ cs ++ r)

-- A text has one reading.
pub record OneReading : Type 0 where
  -- pieces stand one behind another: each is a front of what is left
  pub fronts : (p q : Place) (s r : Text) (k : Piece) → PieceAt p s r q k → IsFront s r
  -- one list of them from each place
  pub one_list : (p : Place) (s : Text) (ks ls : List Piece) → Pieces p s ks → Pieces p s ls → ks ≡ ls
  -- or one fault
  pub one_fault : (p : Place) (s : Text) (f g : Fault) → FaultIn p s f → FaultIn p s g → f ≡ g
  -- and not both
  pub not_both : (p : Place) (s : Text) (ks : List Piece) (f : Fault) → Pieces p s ks → FaultIn p s f → ⊥
  -- so bytes lex to one thing
  pub one_answer : (bytes : List ℕ) (r s : Result (List LogicalLine) Fault) → Lexes bytes r → Lexes bytes s → r ≡ s

-- The keywords among the names of modules and those among tokens are the same.
abbrev pub SameKeywords : Type 0
SameKeywords = map (λ row. row.0) tokens.keywords ≡ names.keywords
