-- A piece is a front of the text: what stands there is the piece's characters, and then what is behind it.
use Rattle.std.proofs.Common.{◌≡◌, ℕ, Bool, true, false, cond, List, [], ◌∷◌, ◌++◌, take, drop, Option, Some, None, refl, sym, ap, subst, ◌∙◌, take-append-drop}
use Rattle.std.specs.Prelude.{◌==◌}
use Rattle.std.specs.Option.{option_and_then}
use Rattle.std.specs.List.{prefix_len}
use Rattle.std.proofs.lemmas.List.{append_assoc}
use Rattle.unicode_ident.specs.Ident.{is_xid_continue}
use Rattle.py_lexer.specs.declared.string_literal.Quotes.{Quotes}
use Rattle.py_lexer.specs.declared.token.Token.{Token}
use Rattle.py_lexer.specs.declared.token.Mark.{Mark}
use Rattle.py_lexer.specs.declared.piece.Piece.{Piece}
use Rattle.py_lexer.specs.declared.piece.Place.{Place}
use Rattle.py_lexer.specs.Characters.{Text, is_blank, in_comment, after_line_feed, after_line_end}
use Rattle.py_lexer.specs.Integers.{in_number}
use Rattle.py_lexer.specs.Strings.{octal_digits, EscapeAt, joins, a_character, an_octal, a_code_point, opening, opening_by, after_one, after_two, after_three, after_closing, PartAt, plain, escaped, line_end, Parts, closing, part}
use Rattle.py_lexer.specs.Tokens.{MarkAt, after_spelling, mark_or, first_mark, marks, TokenAt, a_name, an_integer, a_string, a_mark}
use Rattle.py_lexer.specs.Pieces.{PieceAt, an_indentation, blanks, a_comment, a_joined_line, a_line_end, a_token}
use Rattle.py_lexer.specs.Lexing.{IsFront}

all : (s : Text) → IsFront s s
all s = ([], refl)

behind_one : {c : ℕ} {s r : Text} → IsFront s r → IsFront (c ∷ s) r
behind_one {c = c} (cs, e) = (c ∷ cs, ap (λ x. c ∷ x) e)

joined : {s m r : Text} → IsFront s m → IsFront m r → IsFront s r
joined {r = r} (cs, e) (ds, f) = (cs ++ ds, e ∙ ap (λ x. cs ++ x) f ∙ sym (append_assoc cs ds r))

dropped : (n : ℕ) (s : Text) → IsFront s (drop n s)
dropped n s = (take n s, sym (take-append-drop n s))

same_rest : {s r r' : Text} → IsFront s r → Some r ≡ Some r' → IsFront s r'
same_rest {s = s} {r = r} {r' = r'} d e = let same : r ≡ r' = cc in subst (IsFront s) same d

line_feed_front : (s r : Text) → after_line_feed s ≡ Some r → IsFront s r
line_feed_front [] r e = absurd cc
line_feed_front (c ∷ s) r e = go (c == 10) e
  where
    go : (b : Bool) → cond b (Some s) None ≡ Some r → IsFront (c ∷ s) r
    go true e = same_rest (behind_one (all s)) e
    go false e = absurd cc

line_end_front : (s r : Text) → after_line_end s ≡ Some r → IsFront s r
line_end_front [] r e = absurd cc
line_end_front (c ∷ s) r e = go (c == 13) e
  where
    go : (b : Bool) → cond b (after_line_feed s) (after_line_feed (c ∷ s)) ≡ Some r → IsFront (c ∷ s) r
    go true e = behind_one (line_feed_front s r e)
    go false e = line_feed_front (c ∷ s) r e

escape_front : {s r : Text} {v : Option ℕ} → EscapeAt s r v → IsFront s r
escape_front (joins {c = c} {s = s} {r = r} e h) = line_end_front (c ∷ s) r h
escape_front (a_character {s = s} e) = behind_one (all s)
escape_front (an_octal {c = c} {s = s} e h) = dropped (octal_digits (c ∷ s)) (c ∷ s)
escape_front (a_code_point {n = n} {s = s} e h d i) = behind_one (dropped n s)

part_front : {q : Quotes} {s r : Text} {v : Option ℕ} → PartAt q s r v → IsFront s r
part_front (plain {s = s} e) = behind_one (all s)
part_front (escaped e d) = behind_one (escape_front d)
part_front (line_end {c = c} {s = s} {r = r} e t h) = line_end_front (c ∷ s) r h

one_front : (mark : ℕ) (s r : Text) → after_one mark s ≡ Some r → IsFront s r
one_front mark [] r e = absurd cc
one_front mark (c ∷ s) r e = go (c == mark) e
  where
    go : (b : Bool) → cond b (Some s) None ≡ Some r → IsFront (c ∷ s) r
    go true e = same_rest (behind_one (all s)) e
    go false e = absurd cc

then_front : (f g : Text → Option Text) (s r : Text) → ((s r : Text) → f s ≡ Some r → IsFront s r) → ((s r : Text) → g s ≡ Some r → IsFront s r) → option_and_then g (f s) ≡ Some r → IsFront s r
then_front f g s r hf hg e = go (f s) refl e
  where
    go : (o : Option Text) → f s ≡ o → option_and_then g o ≡ Some r → IsFront s r
    go None h e = absurd cc
    go (Some m) h e = joined (hf s m h) (hg m r e)

two_front : (mark : ℕ) (s r : Text) → after_two mark s ≡ Some r → IsFront s r
two_front mark s r e = then_front (after_one mark) (after_one mark) s r (one_front mark) (one_front mark) e

three_front : (mark : ℕ) (s r : Text) → after_three mark s ≡ Some r → IsFront s r
three_front mark s r e = then_front (after_one mark) (after_two mark) s r (one_front mark) (two_front mark) e

closing_front : (q : Quotes) (s r : Text) → after_closing q s ≡ Some r → IsFront s r
closing_front q s r e = go q.triple e
  where
    go : (b : Bool) → cond b (after_three q.mark s) (after_one q.mark s) ≡ Some r → IsFront s r
    go true e = three_front q.mark s r e
    go false e = one_front q.mark s r e

parts_front : {q : Quotes} {s r : Text} {cs : List ℕ} → Parts q s r cs → IsFront s r
parts_front {q = q} (closing {s = s} {r = r} e) = closing_front q s r e
parts_front (part n d rest) = joined (part_front d) (parts_front rest)

opening_front : (mark : ℕ) (s : Text) → IsFront s (opening mark s).rest
opening_front mark s = go (after_two mark s) refl
  where
    go : (o : Option Text) → after_two mark s ≡ o → IsFront s (opening_by mark s o).rest
    go None e = all s
    go (Some r) e = two_front mark s r e

spelling_front : (spelling : List ℕ) (s r : Text) → after_spelling spelling s ≡ Some r → IsFront s r
spelling_front [] s r e = same_rest (all s) e
spelling_front (c ∷ spelling) [] r e = absurd cc
spelling_front (c ∷ spelling) (d ∷ s) r e = go (d == c) e (spelling_front spelling s r)
  where
    go : (b : Bool) → cond b (after_spelling spelling s) None ≡ Some r → (after_spelling spelling s ≡ Some r → IsFront s r) → IsFront (d ∷ s) r
    go true e h = behind_one (h e)
    go false e h = absurd cc

first_front : (es : List (List ℕ × Mark)) (s : Text) (x : MarkAt) → first_mark es s ≡ Some x → IsFront s x.rest
first_front [] s x e = absurd cc
first_front (entry ∷ es) s x e = go (after_spelling entry.0 s) refl e (first_front es s x)
  where
    go : (o : Option Text) → after_spelling entry.0 s ≡ o → mark_or entry.1 o (first_mark es s) ≡ Some x → (first_mark es s ≡ Some x → IsFront s x.rest) → IsFront s x.rest
    go None i e k = k e
    go (Some r) i e k = let same : record { mark = entry.1; rest = r } ≡ x = cc in subst (λ (x : MarkAt). IsFront s x.rest) same (spelling_front entry.0 s r i)

token_front : {s r : Text} {t : Token} → TokenAt s r t → IsFront s r
token_front (a_name {s = s} e n q) = behind_one (dropped (prefix_len is_xid_continue s) s)
token_front (an_integer {s = s} e d) = behind_one (dropped (prefix_len in_number s) s)
token_front (a_string {c = c} {s = s} e d) = behind_one (joined (opening_front c s) (parts_front d))
token_front (a_mark {c = c} {s = s} {x = x} e d) = first_front marks (c ∷ s) x d

pub piece_front : {p : Place} {s r : Text} {q : Place} {k : Piece} → PieceAt p s r q k → IsFront s r
piece_front (an_indentation {c = c} {s = s} f) = dropped (prefix_len is_blank (c ∷ s)) (c ∷ s)
piece_front (blanks {s = s} f e) = behind_one (dropped (prefix_len is_blank s) s)
piece_front (a_comment {s = s} f e) = behind_one (dropped (prefix_len in_comment s) s)
piece_front (a_joined_line {s = s} {r = r} f e h) = behind_one (line_end_front s r h)
piece_front (a_line_end {c = c} {s = s} {r = r} f e h) = line_end_front (c ∷ s) r h
piece_front (a_token f d h n m) = token_front d
