-- The marker line, by which a module asks to be loaded under the strict rules.
use Rattle.std.specs.Prelude.{◌≡◌, ℕ, ◌+◌, ◌-◌, ◌<◌, ◌==◌, ◌&&◌, ◌⊎◌, nat_eq, suc, Bool, List, [], ◌∷◌, ◌++◌, length, drop, replicate, codes, Option, Some, None, slice_get}
use Rattle.std.specs.Option.{option_map}
use Rattle.std.specs.List.{before_first, starts_with, list_any, list_all, position, prefix_len}
use Rattle.std.specs.Str.Lines.{strip_carriage_return}
use Rattle.py_lexer.specs.Lines.{lines, without_byte_order_mark}

-- ---- by its spelling

-- The names that a marker imports.
abbrev pub IsMarkerName : List ℕ → Type 0
IsMarkerName name = (name ≡ codes "__strict__") ⊎ (name ≡ codes "__static__")

-- Nothing, or a comment.
abbrev pub IsComment : List ℕ → Type 0
IsComment [] = Unit {0}
IsComment (byte ∷ bytes) = byte ≡ 35

-- What may stand at the end of a marker line: a carriage return or none, and a comment or none.
abbrev pub IsLineEnd : List ℕ → Type 0
IsLineEnd bytes = IsComment bytes ⊎ ((comment : List ℕ) × IsComment comment × (bytes ≡ 13 ∷ comment))

-- A marker line is `import`, one or more spaces, a name, any number of spaces, and the end.
pub record IsMarkerLine (line : List ℕ) : Type 0 where
  pub gap : ℕ
  pub name : List ℕ
  pub blanks : ℕ
  pub end : List ℕ
  pub is_name : IsMarkerName name
  pub is_end : IsLineEnd end
  pub spelled : line ≡ codes "import" ++ replicate (suc gap) 32 ++ name ++ replicate blanks 32 ++ end

-- The physical line of a text that has that number, from 1. U+FEFF at the start of the text isn't part of it.
abbrev pub IsLine : List ℕ → ℕ → List ℕ → Type 0
IsLine text n line = (0 < n) × (slice_get (lines (without_byte_order_mark text)) (n - 1) ≡ Some line)

-- The number of the first marker line, or none where no line is one.
abbrev pub IsFirstMarker : List ℕ → Option ℕ → Type 0
IsFirstMarker text None = (n : ℕ) (line : List ℕ) → IsLine text n line → ¬ (IsMarkerLine line)
IsFirstMarker text (Some n) = ((line : List ℕ) × IsLine text n line × IsMarkerLine line) × ((k : ℕ) (line : List ℕ) → k < n → IsLine text k line → ¬ (IsMarkerLine line))

-- ---- by a test

abbrev pub is_space : ℕ → Bool
is_space byte = byte == 32

-- The part of a line that counts: cut at its first `#`, and then without one carriage return at its end.
abbrev pub part_of : List ℕ → List ℕ
part_of line = strip_carriage_return (before_first (λ byte. byte == 35) line)

-- What follows the spaces at the front.
abbrev pub after_spaces : List ℕ → List ℕ
after_spaces bytes = drop (prefix_len is_space bytes) bytes

-- Whether the bytes are that name, with spaces behind it.
abbrev pub is_name_and_spaces : List ℕ → List ℕ → Bool
is_name_and_spaces bytes name = starts_with nat_eq bytes name && list_all is_space (drop (length name) bytes)

abbrev pub marker_names : List (List ℕ)
marker_names = codes "__strict__" ∷ codes "__static__" ∷ []

abbrev pub is_marker_line : List ℕ → Bool
is_marker_line line = starts_with nat_eq (part_of line) (codes "import ") && list_any (is_name_and_spaces (after_spaces (drop 7 (part_of line)))) marker_names

-- The number of the first marker line, from 1.
abbrev pub first_marker : List ℕ → Option ℕ
first_marker text = option_map (λ place. place + 1) (position is_marker_line (lines (without_byte_order_mark text)))
