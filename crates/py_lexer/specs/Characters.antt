-- The kinds of characters by which a text is cut into pieces, and line ends (Python reference: lexical analysis, line structure).
-- A text is the list of its characters. What stands at a place of it is told by the text from there on.
use Rattle.std.specs.Prelude.{ℕ, ◌-◌, ◌==◌, ◌||◌, not, Bool, if◌then◌else◌, List, [], ◌∷◌, take, drop, length, Option, Some, None}
use Rattle.std.specs.Char.{is_ascii_digit}
use Rattle.std.specs.List.{prefix_len, count_by}
use Rattle.py_lexer.specs.declared.character.CharKind.{CharKind}
use Rattle.py_lexer.specs.declared.character.CharKind.TheVariants as kind
use Rattle.py_lexer.specs.declared.character.TokenKind.TheVariants as token_kind
use Rattle.py_lexer.specs.Names.{may_start_identifier}

abbrev pub Text : Type 0
Text = List ℕ

-- a space or a tab
abbrev pub is_blank : ℕ → Bool
is_blank c = c == 32 || c == 9

abbrev pub is_space : ℕ → Bool
is_space c = c == 32

-- a line feed or a carriage return
abbrev pub is_line_character : ℕ → Bool
is_line_character c = c == 10 || c == 13

-- any other than these
abbrev pub in_comment : ℕ → Bool
in_comment c = not (is_line_character c)

-- `'` or `"`
abbrev pub is_quote : ℕ → Bool
is_quote c = c == 39 || c == 34

unfoldable pub kind_of : ℕ → CharKind
kind_of c =
    if is_blank c then kind.Blank
    else (if c == 35 then kind.Hash
    else (if is_line_character c then kind.LineEnd
    else (if c == 92 then kind.Backslash
    else (if is_quote c then kind.Token token_kind.String
    else (if is_ascii_digit c then kind.Token token_kind.Integer
    else (if may_start_identifier c then kind.Token token_kind.Name
    else kind.Token token_kind.Mark))))))

-- the longest run of characters at the front that pass, and what is behind it
abbrev pub front : (ℕ → Bool) → Text → List ℕ
front p s = take (prefix_len p s) s

abbrev pub behind : (ℕ → Bool) → Text → Text
behind p s = drop (prefix_len p s) s

-- what stands between two places of a text
abbrev pub between : Text → Text → List ℕ
between s r = take (length s - length r) s

-- how many line feeds stand there
abbrev pub line_feeds : List ℕ → ℕ
line_feeds cs = count_by (λ c. c == 10) cs

-- what is behind the line feed at the front, if one stands there
abbrev pub after_line_feed : Text → Option Text
after_line_feed [] = None
after_line_feed (c ∷ s) = if c == 10 then Some s else None

-- what is behind the line end at the front, if one stands there: a line feed, with a carriage return before it or without
abbrev pub after_line_end : Text → Option Text
after_line_end [] = None
after_line_end (c ∷ s) = if c == 13 then after_line_feed s else after_line_feed (c ∷ s)
