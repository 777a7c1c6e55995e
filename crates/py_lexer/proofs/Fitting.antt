-- The integers among the tokens that bytes lex to fit.
use Rattle.std.proofs.Common.{◌≡◌, ◌==◌, ℕ, Bool, true, false, if◌then◌else◌, List, [], ◌∷◌, Ok, refl, ap, ◌∙◌}
use Rattle.std.proofs.lemmas.Bool.{and_from}
use Rattle.std.specs.List.{prefix_len}
use Rattle.std.proofs.lemmas.List.Folds.{list_all-append}
use Rattle.py_lexer.specs.declared.piece.Piece.{Piece}
use Rattle.py_lexer.specs.declared.piece.Piece.TheVariants as piece
use Rattle.py_lexer.specs.declared.piece.Place.{Place}
use Rattle.py_lexer.specs.declared.token.Token.{Token}
use Rattle.py_lexer.specs.declared.token.LogicalLine.{LogicalLine}
use Rattle.py_lexer.specs.Characters.{Text, is_space}
use Rattle.py_lexer.specs.Pieces as p
use Rattle.py_lexer.specs.Pieces.{Pieces, PieceAt, fits}
use Rattle.py_lexer.specs.Lexing as l
use Rattle.py_lexer.specs.Lexing.{Lexes, tokens_of, line_of, lines_of}
use Rattle.py_lexer.specs.Literals.{tokens_fit, lines_fit}

tokens_past : (b : Bool) (ks : List Piece) → tokens_of ((if b then piece.LineEnd else piece.JoinedLine) ∷ ks) ≡ tokens_of ks
tokens_past true ks = refl
tokens_past false ks = refl

lines_past : (b : Bool) (ks : List Piece) → lines_of ((if b then piece.LineEnd else piece.JoinedLine) ∷ ks) ≡ lines_of ks
lines_past true ks = refl
lines_past false ks = refl

piece_tokens : {p : Place} {s r : Text} {q : Place} {k : Piece} → PieceAt p s r q k → (ks : List Piece) → tokens_fit (tokens_of ks) ≡ true → tokens_fit (tokens_of (k ∷ ks)) ≡ true
piece_tokens (p.an_indentation f) ks h = refl
piece_tokens (p.blanks f k) ks h = h
piece_tokens (p.a_comment f k) ks h = h
piece_tokens (p.a_joined_line f k e) ks h = h
piece_tokens {p = at} (p.a_line_end f k e) ks h = ap tokens_fit (tokens_past (at.depth == 0) ks) ∙ h
piece_tokens (p.a_token {t = t} f d fit tab few) ks h = and_from (fits t) (tokens_fit (tokens_of ks)) fit h

tokens_of_fit : {p : Place} {s : Text} {ks : List Piece} → Pieces p s ks → tokens_fit (tokens_of ks) ≡ true
tokens_of_fit p.the_end = refl
tokens_of_fit (p.a_piece {ks = ks} d ps) = piece_tokens d ks (tokens_of_fit ps)

line_fits : (indent line : ℕ) (ts : List Token) → tokens_fit ts ≡ true → lines_fit (line_of indent line ts) ≡ true
line_fits indent line [] h = refl
line_fits indent line (t ∷ ts) h = and_from (tokens_fit (t ∷ ts)) true h refl

piece_lines : {p : Place} {s r : Text} {q : Place} {k : Piece} → PieceAt p s r q k → (ks : List Piece) → tokens_fit (tokens_of ks) ≡ true → lines_fit (lines_of ks) ≡ true → lines_fit (lines_of (k ∷ ks)) ≡ true
piece_lines {p = at} (p.an_indentation {c = c} {s = s} f) ks ts h =
    let indent : ℕ = prefix_len is_space (c ∷ s) in
    list_all-append (λ (line : LogicalLine). tokens_fit line.tokens) (line_of indent at.line (tokens_of ks)) (lines_of ks)
    ∙ and_from (lines_fit (line_of indent at.line (tokens_of ks))) (lines_fit (lines_of ks)) (line_fits indent at.line (tokens_of ks) ts) h
piece_lines (p.blanks f k) ks ts h = h
piece_lines (p.a_comment f k) ks ts h = h
piece_lines (p.a_joined_line f k e) ks ts h = h
piece_lines {p = at} (p.a_line_end f k e) ks ts h = ap lines_fit (lines_past (at.depth == 0) ks) ∙ h
piece_lines (p.a_token f d fit tab few) ks ts h = h

lines_of_fit : {p : Place} {s : Text} {ks : List Piece} → Pieces p s ks → lines_fit (lines_of ks) ≡ true
lines_of_fit p.the_end = refl
lines_of_fit (p.a_piece {ks = ks} d ps) = piece_lines d ks (tokens_of_fit ps) (lines_of_fit ps)

pub lexed_fit : {bytes : List ℕ} {lines : List LogicalLine} → Lexes bytes (Ok lines) → lines_fit lines ≡ true
lexed_fit (l.in_lines h u ps) = lines_of_fit ps
