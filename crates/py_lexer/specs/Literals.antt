-- That no integer among tokens is above the greatest `int`.
use Rattle.std.specs.Prelude.{◌≡◌, ℕ, Bool, true, ◌&&◌, List, [], ◌∷◌, Ok}
use Rattle.std.specs.List.{list_all}
use Rattle.py_lexer.specs.declared.token.Token.{Token}
use Rattle.py_lexer.specs.declared.token.LogicalLine.{LogicalLine}
use Rattle.py_lexer.specs.Pieces.{fits}
use Rattle.py_lexer.specs.Lexing.{Lexes}

abbrev pub tokens_fit : List Token → Bool
tokens_fit [] = true
tokens_fit (t ∷ ts) = fits t && tokens_fit ts

abbrev pub lines_fit : List LogicalLine → Bool
lines_fit lines = list_all (λ line. tokens_fit line.tokens) lines

-- the tokens that bytes lex to fit
abbrev pub LexedFit : Type 0
LexedFit = (bytes : List ℕ) (lines : List LogicalLine) → Lexes bytes (Ok lines) → lines_fit lines ≡ true
