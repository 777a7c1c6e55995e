-- The physical lines of a text.
use Rattle.std.specs.Prelude.{ℕ, ◌==◌, nat_eq, if◌then◌else◌, List, [], ◌∷◌, drop}
use Rattle.std.specs.List.{onto_first, starts_with}
use Rattle.py_lexer.specs.declared.lines.Lines.{Lines}

-- Each line without its line end. Behind the last line end stands a line only where something stands there.
abbrev pub lines : List ℕ → List (List ℕ)
lines [] = []
lines (byte ∷ bytes) = if byte == 10 then [] ∷ lines bytes else onto_first byte (lines bytes)

-- U+FEFF in UTF-8
abbrev pub byte_order_mark : List ℕ
byte_order_mark = 239 ∷ 187 ∷ 191 ∷ []

-- The text without U+FEFF at its start.
abbrev pub without_byte_order_mark : List ℕ → List ℕ
without_byte_order_mark text = if starts_with nat_eq text byte_order_mark then drop 3 text else text

-- The lines that the iterator has still to give.
abbrev pub lines_left : Lines → List (List ℕ)
lines_left s = lines s.text.now
