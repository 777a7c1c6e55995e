-- How values of the code, which hold pointers, are seen. This is no definition of the language.
use Rattle.std.specs.Str.{IsValidUpTo}
use Rattle.std.specs.Global.{Vec}
use Rattle.py_lexer.specs.declared.lex.LineReader.{LineReader}
use Rattle.py_lexer.specs.declared.token.LogicalLine.{LogicalLine}
use Rattle.py_lexer.specs.declared.piece.Piece.{Piece}
use Rattle.py_lexer.specs.Lexing.{line_of, lines_of, tokens_of}
use Rattle.std.specs.Prelude.{◌≡◌, ◌+◌, ◌++◌, take, chars, IsUtf8, ℕ, true, false, ◌^◌, ◌&&◌, nat_lt, if◌then◌else◌, List, Option, Some, None, Result, Ok, Err}
use Rattle.std.specs.Char.{is_digit}
use Rattle.std.specs.List.{list_all}
use Rattle.std.specs.Borrow.{Bor}
use Rattle.py_lexer.specs.declared.token.Mark.{Mark}
use Rattle.py_lexer.specs.declared.token.Token.{Token}
use Rattle.py_lexer.specs.Characters.{Text, line_feeds}
use Rattle.py_lexer.specs.Tokens.{MarkAt, TokenAt}
use Rattle.py_lexer.specs.Pieces.{fault, fits, start, PieceAt, NoPiece, Pieces, FaultIn}
use Rattle.py_tree.specs.declared.code.Code.{Code}
use Rattle.py_tree.specs.declared.code.Code.TheVariants as code
use Rattle.py_tree.specs.declared.fault.Fault.{Fault}
use Rattle.py_tree.specs.declared.fault.Stop.{Stop}
use Rattle.py_tree.specs.declared.fault.Stop.TheVariants as stop
use Rattle.py_lexer.specs.declared.piece.Place.{Place}
use Rattle.py_lexer.specs.declared.piece.Step as code_piece
use Rattle.py_lexer.specs.Reading.{Lexeme, Part, Step}
use Rattle.std.specs.declared.alloc.AllocError.{AllocError}
use Rattle.py_lexer.specs.declared.string_literal.Quotes.{Quotes}
use Rattle.py_lexer.specs.Strings.{value_from, Opening, Parts}

abbrev pub spelling_view : {X : Type 0} → Bor (List ℕ) × X → List ℕ × X
spelling_view row = (row.0.now, row.1)

abbrev pub mark_view : Mark × Bor Text → MarkAt
mark_view x = record { mark = x.0; rest = x.1.now }

abbrev pub part_view : Option ℕ × Bor Text → Part
part_view x = record { character = x.0; rest = x.1.now }

-- the value of digits behind those of the value n, where it is below 2^32
abbrev pub value_in_from : ℕ → ℕ → List ℕ → Option ℕ
value_in_from base n cs = if list_all (λ c. is_digit c base) cs && nat_lt (value_from base n cs) (2 ^ 32) then Some (value_from base n cs) else None

abbrev pub value_in : ℕ → List ℕ → Option ℕ
value_in base cs = value_in_from base 0 cs

abbrev pub lexeme_view : Token × Bor Text → Lexeme
lexeme_view x = record { token = x.0; rest = x.1.now }

-- what is answered on the text behind the opening quotes q
abbrev pub IsParts : Quotes → Text → Result (Option (List ℕ × Bor Text)) AllocError → Type 0
IsParts q s (Ok (Some x)) = Parts q s x.1.now x.0
IsParts q s (Ok None) = (r : Text) (cs : List ℕ) → Parts q s r cs → ⊥
IsParts q s (Err e) = Unit {0}

abbrev pub opening_view : Quotes × Bor Text → Opening
opening_view x = record { quotes = x.0; rest = x.1.now }

abbrev pub IsStopOn : ℕ → Result Lexeme Code → Stop → Type 0
IsStopOn line read (stop.Memory e) = Unit {0}
IsStopOn line read (stop.Fault f) = read ≡ Err f.code × (f.line ≡ line)

-- what is answered where that is read on that line
abbrev pub GivesLexeme : ℕ → Result Lexeme Code → Result (Token × Bor Text) Stop → Type 0
GivesLexeme line read (Ok x) = read ≡ Ok (lexeme_view x)
GivesLexeme line read (Err e) = IsStopOn line read e

-- the fault where a token is wanted on that line
pub data NoToken (line : ℕ) (s : Text) : Fault → Type 0 where
  none : ((r : Text) (t : Token) → TokenAt s r t → ⊥) → NoToken line s (fault line code.BadToken)
  too_large : {r : Text} {t : Token} → TokenAt s r t → fits t ≡ false → NoToken line s (fault line code.IntegerTooLarge)

abbrev pub IsNoToken : ℕ → Text → Stop → Type 0
IsNoToken line s (stop.Memory e) = Unit {0}
IsNoToken line s (stop.Fault f) = NoToken line s f

-- what is answered where a token is wanted on that line
abbrev pub IsTokenAt : ℕ → Text → Result (Token × Bor Text) Stop → Type 0
IsTokenAt line s (Ok x) = TokenAt s x.1.now x.0 × (fits x.0 ≡ true)
IsTokenAt line s (Err e) = IsNoToken line s e

abbrev pub step_view : code_piece.Step → Step
step_view x = record { piece = x.piece; place = x.place; rest = x.rest.now }

abbrev pub IsFault : Result Step Fault → Stop → Type 0
IsFault read (stop.Memory e) = Unit {0}
IsFault read (stop.Fault f) = read ≡ Err f

-- what is answered where that is read
abbrev pub GivesStep : Result Step Fault → Result code_piece.Step Stop → Type 0
GivesStep read (Ok x) = read ≡ Ok (step_view x)
GivesStep read (Err e) = IsFault read e

abbrev pub IsNoPiece : Place → Text → Stop → Type 0
IsNoPiece p s (stop.Memory e) = Unit {0}
IsNoPiece p s (stop.Fault f) = NoPiece p s f

-- what is answered where a piece is wanted
abbrev pub IsStep : Place → Text → Result code_piece.Step Stop → Type 0
IsStep p s (Ok x) = PieceAt p s x.rest.now x.place x.piece
IsStep p s (Err e) = IsNoPiece p s e

-- what is answered where bytes are to be decoded
abbrev pub IsBadText : List ℕ → Stop → Type 0
IsBadText bytes (stop.Memory e) = Unit {0}
IsBadText bytes (stop.Fault f) = ¬ (IsUtf8 bytes) × ((n : ℕ) × IsValidUpTo bytes n × (f ≡ fault (1 + line_feeds (take n bytes)) code.BadEncoding))

abbrev pub IsDecoded : List ℕ → Result (Vec ℕ) Stop → Type 0
IsDecoded bytes (Ok characters) = IsUtf8 bytes × (characters.items ≡ chars bytes)
IsDecoded bytes (Err e) = IsBadText bytes e

abbrev pub IsBadReading : Text → Stop → Type 0
IsBadReading s (stop.Memory e) = Unit {0}
IsBadReading s (stop.Fault f) = FaultIn start s f

-- what is answered on a text
abbrev pub IsRead : Text → Result (List LogicalLine) Stop → Type 0
IsRead s (Ok lines) = (ks : List Piece) × Pieces start s ks × (lines ≡ lines_of ks)
IsRead s (Err e) = IsBadReading s e

-- the lines that a reader gives where these pieces follow
abbrev pub grouped : LineReader → List Piece → List LogicalLine
grouped reader ks = reader.ended ++ line_of reader.line.indent reader.line.line (reader.line.tokens ++ tokens_of ks) ++ lines_of ks
