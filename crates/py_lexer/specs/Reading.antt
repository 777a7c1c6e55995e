-- What stands at the front of a text, as functions, by which the code is proved. This is no definition of the language.
use Rattle.std.specs.Prelude.{ℕ, ◌+◌, ◌*◌, ◌==◌, ◌&&◌, ◌||◌, nat_le, nat_lt, not, min, Bool, true, false, if◌then◌else◌, List, [], ◌∷◌, take, drop, length, Option, Some, None, Result, Ok, Err}
use Rattle.std.specs.Char.{digit_value}
use Rattle.std.proofs.Math.Utf8.{scalar}
use Rattle.std.specs.List.{list_all}
use Rattle.std.specs.Option.{option_map}
use Rattle.unicode_ident.specs.Ident.{is_xid_continue}
use Rattle.unicode_normalization.specs.Forms.{is_in_form}
use Rattle.unicode_normalization.specs.declared.Form.TheVariants.{Nfkc}
use Rattle.py_tree.specs.Literals.{greatest_int}
use Rattle.py_lexer.specs.declared.character.CharKind.{CharKind}
use Rattle.py_lexer.specs.declared.character.CharKind.TheVariants as kind
use Rattle.py_lexer.specs.declared.escape.Escape.{Escape}
use Rattle.py_lexer.specs.declared.escape.Escape.TheVariants as escape
use Rattle.py_lexer.specs.declared.string_literal.Quotes.{Quotes}
use Rattle.py_lexer.specs.declared.token.Token.{Token}
use Rattle.py_lexer.specs.declared.token.Token.TheVariants as token
use Rattle.py_tree.specs.declared.code.Code.{Code}
use Rattle.py_tree.specs.declared.code.Code.TheVariants as code
use Rattle.std.specs.List.{prefix_len}
use Rattle.py_tree.specs.declared.fault.Fault.{Fault}
use Rattle.py_lexer.specs.declared.piece.Piece.{Piece}
use Rattle.py_lexer.specs.declared.piece.Piece.TheVariants as piece
use Rattle.py_lexer.specs.declared.piece.Place.{Place}
use Rattle.py_lexer.specs.Characters.{Text, is_blank, is_space, in_comment, kind_of, front, behind, between, after_line_end}
use Rattle.py_lexer.specs.Pieces.{fault, behind_indentation, behind_line_end, behind_token, depth_behind, line_end_at, on_next_line}
use Rattle.py_lexer.specs.Integers.{in_number, prefix_base}
use Rattle.py_lexer.specs.Strings.{is_hexadecimal, escape_of, octal_digits, octal_value, hexadecimal_value}
use Rattle.py_lexer.specs.Tokens.{named, begins_with_quote, MarkAt, first_mark, marks}

pub record Lexeme : Type 0 where
  pub token : Token
  pub rest : Text

abbrev pub lexeme : Token → Text → Lexeme
lexeme t r = record { token = t; rest = r }

abbrev pub kind_at : Text → Option CharKind
kind_at [] = None
kind_at (c ∷ s) = Some (kind_of c)

-- the first character with the longest run behind it that passes, and what is behind it
abbrev pub run_at : (ℕ → Bool) → Text → List ℕ
run_at p [] = []
run_at p (c ∷ s) = c ∷ front p s

abbrev pub behind_run : (ℕ → Bool) → Text → Text
behind_run p [] = []
behind_run p (c ∷ s) = behind p s

abbrev pub name_token : List ℕ → Bool → Option Token
name_token name touched = if touched || not (is_in_form Nfkc name) then None else Some (named name)

abbrev pub lexeme_or_bad : Option Token → Text → Result Lexeme Code
lexeme_or_bad None r = Err code.BadToken
lexeme_or_bad (Some t) r = Ok (lexeme t r)

abbrev pub name_at : Text → Result Lexeme Code
name_at s = lexeme_or_bad (name_token (run_at is_xid_continue s) (begins_with_quote (behind_run is_xid_continue s))) (behind_run is_xid_continue s)

abbrev pub mark_lexeme : Option MarkAt → Result Lexeme Code
mark_lexeme None = Err code.BadToken
mark_lexeme (Some x) = Ok (lexeme (token.Mark x.mark) x.rest)

abbrev pub mark_lexeme_at : Text → Result Lexeme Code
mark_lexeme_at s = mark_lexeme (first_mark marks s)

-- ---- integers

-- the value of the digits cs behind those of the value n, which have an underscore behind them or not
abbrev pub digits_in : ℕ → ℕ → Bool → List ℕ → Option ℕ
digits_in base n underscore [] = if underscore then None else Some n
digits_in base n underscore (c ∷ cs) =
    if c == 95 then (if underscore then None else digits_in base n true cs)
    else (if nat_lt (digit_value c) base then digits_in base (n * base + digit_value c) false cs else None)

abbrev pub zero_or : Bool → Option ℕ → Option ℕ
zero_or true (Some n) = if n == 0 then Some n else None
zero_or _ o = o

abbrev pub decimal_in : List ℕ → Option ℕ
decimal_in [] = None
decimal_in (c ∷ cs) = if nat_lt (digit_value c) 10 then zero_or (c == 48) (digits_in 10 (digit_value c) false cs) else None

abbrev pub prefixed_in : ℕ → List ℕ → Option ℕ
prefixed_in base (c ∷ d ∷ e ∷ cs) = digits_in base 0 false (e ∷ cs)
prefixed_in base _ = None

abbrev pub by_base : Option ℕ → List ℕ → Option ℕ
by_base None cs = decimal_in cs
by_base (Some base) cs = prefixed_in base cs

abbrev pub integer_in : List ℕ → Option ℕ
integer_in cs = by_base (prefix_base cs) cs

-- values above the greatest `int` are not told apart
abbrev pub capped : ℕ → ℕ
capped n = min n (greatest_int + 1)

abbrev pub sized : Option ℕ → Text → Result Lexeme Code
sized None r = Err code.BadToken
sized (Some n) r = if nat_le n greatest_int then Ok (lexeme (token.Int n) r) else Err code.IntegerTooLarge

abbrev pub integer_at : Text → Result Lexeme Code
integer_at s = sized (integer_in (run_at in_number s)) (behind_run in_number s)

-- ---- strings

-- a part of a string literal
pub record Part : Type 0 where
  pub character : Option ℕ
  pub rest : Text

abbrev pub nothing : Text → Part
nothing r = record { character = None; rest = r }

abbrev pub a_line_feed : Text → Part
a_line_feed r = record { character = Some 10; rest = r }

abbrev pub octal_in : Text → Option Part
octal_in s = if nat_le (octal_value s) 255 then Some (record { character = Some (octal_value s); rest = drop (octal_digits s) s }) else None

abbrev pub hexadecimal_in : ℕ → Text → Option Part
hexadecimal_in n s =
    if nat_le n (length s) && (list_all is_hexadecimal (take n s) && scalar (hexadecimal_value n s))
    then Some (record { character = Some (hexadecimal_value n s); rest = drop n s })
    else None

abbrev pub escape_by : Escape → ℕ → Text → Option Part
escape_by escape.LineEnd c s = option_map nothing (after_line_end (c ∷ s))
escape_by (escape.Character d) c s = Some (record { character = Some d; rest = s })
escape_by escape.Octal c s = octal_in (c ∷ s)
escape_by (escape.Hexadecimal n) c s = hexadecimal_in n s
escape_by escape.Unknown c s = None

abbrev pub escape_in : Text → Option Part
escape_in [] = None
escape_in (c ∷ s) = escape_by (escape_of c) c s

abbrev pub line_end_in : Quotes → Text → Option Part
line_end_in q s = if q.triple then option_map a_line_feed (after_line_end s) else None

abbrev pub part_by : CharKind → Quotes → ℕ → Text → Option Part
part_by kind.LineEnd q c s = line_end_in q (c ∷ s)
part_by kind.Backslash q c s = escape_in s
part_by _ q c s = Some (record { character = Some c; rest = s })

abbrev pub part_in : Quotes → Text → Option Part
part_in q [] = None
part_in q (c ∷ s) = part_by (kind_of c) q c s

-- ---- pieces

-- a piece, and the place and the text behind it
pub record Step : Type 0 where
  pub piece : Piece
  pub place : Place
  pub rest : Text

abbrev pub step : Piece → Place → Text → Step
step k q r = record { piece = k; place = q; rest = r }

abbrev pub indentation_step : Place → Text → Step
indentation_step p s = step (piece.Indentation (prefix_len is_space s) p.line) (behind_indentation p (front is_blank s)) (behind is_blank s)

abbrev pub blanks_step : Place → Text → Step
blanks_step p s = step piece.Blanks p (behind is_blank (drop 1 s))

abbrev pub comment_step : Place → Text → Step
comment_step p s = step piece.Comment p (behind in_comment (drop 1 s))

abbrev pub line_end_by : Place → Option Text → Result Step Fault
line_end_by p None = Err (fault p.line code.BadToken)
line_end_by p (Some r) = Ok (step (line_end_at p) (behind_line_end p) r)

abbrev pub line_end_step : Place → Text → Result Step Fault
line_end_step p s = line_end_by p (after_line_end s)

abbrev pub joined_line_by : Place → Option Text → Result Step Fault
joined_line_by p None = Err (fault p.line code.BadToken)
joined_line_by p (Some r) = Ok (step piece.JoinedLine (on_next_line p) r)

abbrev pub joined_line_step : Place → Text → Result Step Fault
joined_line_step p s = joined_line_by p (after_line_end (drop 1 s))

abbrev pub token_step : Place → Token → Text → Text → Step
token_step p t s r = step (piece.Token t) (behind_token p t (between s r)) r

abbrev pub settled_by : Place → Option ℕ → Token → Text → Text → Result Step Fault
settled_by p (Some line) t s r = Err (fault line code.TabIndentation)
settled_by p None t s r = if nat_le (depth_behind p.depth t) 100 then Ok (token_step p t s r) else Err (fault p.line code.TooDeep)

-- a token t that stands from s to r, where one is wanted at the place p
abbrev pub settled : Place → Token → Text → Text → Result Step Fault
settled p t s r = settled_by p p.tab t s r
