-- String literals (Python reference: lexical analysis, string and bytes literals). There are no prefixes.
use Rattle.std.specs.Prelude.{◌≡◌, ℕ, ◌+◌, ◌*◌, ◌≤◌, ◌==◌, ◌||◌, Bool, true, false, if◌then◌else◌, nat_lt, List, [], ◌∷◌, take, drop, length, Option, Some, None}
use Rattle.std.specs.Char.{digit_value, IsScalar}
use Rattle.std.specs.List.{list_all, prefix_len}
use Rattle.std.specs.Option.{option_and_then}
use Rattle.py_lexer.specs.declared.character.CharKind.{CharKind}
use Rattle.py_lexer.specs.declared.character.CharKind.TheVariants as kind
use Rattle.py_lexer.specs.declared.escape.Escape.{Escape}
use Rattle.py_lexer.specs.declared.escape.Escape.TheVariants as escape
use Rattle.py_lexer.specs.declared.string_literal.Quotes.{Quotes}
use Rattle.py_lexer.specs.Characters.{Text, kind_of, is_line_character, is_quote, after_line_end}

-- ---- escapes

-- `\\ \' \"` are the character itself, and `\a \b \f \n \r \t \v` are control characters
abbrev pub character_of : ℕ → Option ℕ
character_of c =
    if c == 92 || is_quote c then Some c
    else (if c == 97 then Some 7
    else (if c == 98 then Some 8
    else (if c == 102 then Some 12
    else (if c == 110 then Some 10
    else (if c == 114 then Some 13
    else (if c == 116 then Some 9
    else (if c == 118 then Some 11
    else None)))))))

abbrev pub is_octal : ℕ → Bool
is_octal c = nat_lt (digit_value c) 8

abbrev pub is_hexadecimal : ℕ → Bool
is_hexadecimal c = nat_lt (digit_value c) 16

-- `\xHH`, `\uHHHH`, `\UHHHHHHHH`
abbrev pub other_escape_of : ℕ → Escape
other_escape_of c =
    if is_line_character c then escape.LineEnd
    else (if is_octal c then escape.Octal
    else (if c == 120 then escape.Hexadecimal 2
    else (if c == 117 then escape.Hexadecimal 4
    else (if c == 85 then escape.Hexadecimal 8
    else escape.Unknown))))

abbrev pub character_or : Option ℕ → Escape → Escape
character_or (Some d) other = escape.Character d
character_or None other = other

unfoldable pub escape_of : ℕ → Escape
escape_of c = character_or (character_of c) (other_escape_of c)

-- the value of digits, behind those of the value n
abbrev pub value_from : ℕ → ℕ → List ℕ → ℕ
value_from base n [] = n
value_from base n (c ∷ cs) = value_from base (n * base + digit_value c) cs

-- how many octal digits an escape has: as many as stand there, but no more than three
abbrev pub octal_digits : Text → ℕ
octal_digits s = prefix_len is_octal (take 3 s)

abbrev pub octal_value : Text → ℕ
octal_value s = value_from 8 0 (take (octal_digits s) s)

abbrev pub hexadecimal_value : ℕ → Text → ℕ
hexadecimal_value n s = value_from 16 0 (take n s)

-- `EscapeAt s r v`: behind a backslash, s begins with an escape for v, and r is behind it. It stands for one character, or for nothing.
pub data EscapeAt : Text → Text → Option ℕ → Type 0 where
  joins : {c : ℕ} {s r : Text} → escape_of c ≡ escape.LineEnd → after_line_end (c ∷ s) ≡ Some r → EscapeAt (c ∷ s) r None
  a_character : {c d : ℕ} {s : Text} → escape_of c ≡ escape.Character d → EscapeAt (c ∷ s) s (Some d)
  an_octal : {c : ℕ} {s : Text} → escape_of c ≡ escape.Octal → octal_value (c ∷ s) ≤ 255 → EscapeAt (c ∷ s) (drop (octal_digits (c ∷ s)) (c ∷ s)) (Some (octal_value (c ∷ s)))
  a_code_point : {c n : ℕ} {s : Text} → escape_of c ≡ escape.Hexadecimal n → n ≤ length s → list_all is_hexadecimal (take n s) ≡ true → IsScalar (hexadecimal_value n s)
      → EscapeAt (c ∷ s) (drop n s) (Some (hexadecimal_value n s))

-- ---- quotes

-- what is behind the quotes at the front, if they stand there
abbrev pub after_one : ℕ → Text → Option Text
after_one mark [] = None
after_one mark (c ∷ s) = if c == mark then Some s else None

abbrev pub after_two : ℕ → Text → Option Text
after_two mark s = option_and_then (after_one mark) (after_one mark s)

abbrev pub after_three : ℕ → Text → Option Text
after_three mark s = option_and_then (after_two mark) (after_one mark s)

pub record Opening : Type 0 where
  pub quotes : Quotes
  pub rest : Text

abbrev pub opening_by : ℕ → Text → Option Text → Opening
opening_by mark s (Some r) = record { quotes = record { mark = mark; triple = true }; rest = r }
opening_by mark s None = record { quotes = record { mark = mark; triple = false }; rest = s }

-- the opening quotes, by the first of them and what is behind it, and what they open: three where three stand, else one
abbrev pub opening : ℕ → Text → Opening
opening mark s = opening_by mark s (after_two mark s)

-- what is behind the closing quotes at the front, if they stand there
abbrev pub after_closing : Quotes → Text → Option Text
after_closing q s = if q.triple then after_three q.mark s else after_one q.mark s

-- ---- what stands between the quotes

-- stands for itself
abbrev pub is_plain : CharKind → Bool
is_plain kind.LineEnd = false
is_plain kind.Backslash = false
is_plain _ = true

-- `PartAt q s r v`: inside the quotes q, s begins with a part that stands for v, and r is behind it
pub data PartAt (q : Quotes) : Text → Text → Option ℕ → Type 0 where
  plain : {c : ℕ} {s : Text} → is_plain (kind_of c) ≡ true → PartAt q (c ∷ s) s (Some c)
  escaped : {c : ℕ} {s r : Text} {v : Option ℕ} → kind_of c ≡ kind.Backslash → EscapeAt s r v → PartAt q (c ∷ s) r v
  -- a line end stands only between three quotes, and is always a line feed
  line_end : {c : ℕ} {s r : Text} → kind_of c ≡ kind.LineEnd → q.triple ≡ true → after_line_end (c ∷ s) ≡ Some r → PartAt q (c ∷ s) r (Some 10)

abbrev pub onto : Option ℕ → List ℕ → List ℕ
onto None cs = cs
onto (Some c) cs = c ∷ cs

-- `Parts q s r cs`: s begins with parts that stand for cs and with the closing quotes q, the first that stand there, and r is behind them
pub data Parts (q : Quotes) : Text → Text → List ℕ → Type 0 where
  closing : {s r : Text} → after_closing q s ≡ Some r → Parts q s r []
  part : {s m r : Text} {v : Option ℕ} {cs : List ℕ} → after_closing q s ≡ None → PartAt q s m v → Parts q m r cs → Parts q s r (onto v cs)
