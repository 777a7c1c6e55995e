-- Reading a whole text, piece by piece.
use Rattle.std.proofs.Common.{◌≡◌, ℕ, ◌+◌, ◌-◌, ◌*◌, ◌≤◌, ◌<◌, ◌^◌, Bool, true, false, cond, List, [], ◌∷◌, ◌++◌, take, length, Result, Ok, Err, refl, sym, ap, subst, ◌∙◌, arith}
use Rattle.std.specs.Prelude.{◌==◌, chars, IsUtf8}
use Rattle.std.specs.Str.{IsValidUpTo}
use Rattle.std.specs.List.{prefix_len}
use Rattle.std.proofs.lemmas.List.{append-nil, length-take}
use Rattle.std.proofs.lemmas.List.Sums.{count_by-le-length}
use Rattle.std.proofs.lemmas.Str.{utf8_valid_len-IsValidUpTo, length-le-encodes, encodes-chars}
use Rattle.py_tree.specs.declared.code.Code.TheVariants as code
use Rattle.py_tree.specs.declared.fault.Fault.{Fault}
use Rattle.py_tree.specs.declared.fault.Stop.{Stop}
use Rattle.py_tree.specs.declared.fault.Stop.TheVariants as stop
use Rattle.py_lexer.specs.declared.lex.LineReader.{LineReader}
use Rattle.py_lexer.specs.declared.piece.Piece.{Piece}
use Rattle.py_lexer.specs.declared.piece.Place.{Place}
use Rattle.py_lexer.specs.declared.token.Token.{Token}
use Rattle.py_lexer.specs.declared.token.LogicalLine.{LogicalLine}
use Rattle.py_lexer.specs.Characters.{Text, is_blank, in_comment, between, line_feeds}
use Rattle.py_lexer.specs.Pieces.{start, fault, PieceAt, an_indentation, blanks, a_comment, a_joined_line, a_line_end, a_token, Pieces, the_end, a_piece, FaultIn, here, later}
use Rattle.py_lexer.specs.Lexing.{tokens_of, line_of, lines_of, Lexes, too_large, no_text, at_fault, in_lines, greatest_size, without_mark, IsSo, IsAnswered}
use Rattle.py_lexer.specs.Reading.{Step, step}
use Rattle.py_lexer.specs.Views.{IsBadText, IsNoPiece, IsBadReading, IsRead, grouped}
use Rattle.py_lexer.proofs.Quoted.{line_end_shortens}
use Rattle.py_lexer.proofs.Shorter.{drops, token_shortens}
use Rattle.py_lexer.proofs.OnePiece.{one_step, nothing_at_end, piece_or_fault, one_place_fault, no_fault_at_end}

-- ---- one reading

pub one_list : {p : Place} {s : Text} {ks ls : List Piece} → Pieces p s ks → Pieces p s ls → ks ≡ ls
one_list the_end the_end = refl
one_list the_end (a_piece b d) = absurd (nothing_at_end b)
one_list (a_piece a d) the_end = absurd (nothing_at_end a)
one_list (a_piece {q = q} {r = r} {k = k} {ks = ks} a d) (a_piece {q = q'} {r = r'} {k = l} {ks = ls} b e) =
    let same : step k q r ≡ step l q' r' = one_step a b in
    let moved : Pieces q' r' ks = subst (λ (x : Step). Pieces x.place x.rest ks) same d in
    ap (λ (x : Step). x.piece ∷ ks) same ∙ ap (λ x. l ∷ x) (one_list moved e)

pub one_fault : {p : Place} {s : Text} {f g : Fault} → FaultIn p s f → FaultIn p s g → f ≡ g
one_fault (here a) (here b) = one_place_fault a b
one_fault (here a) (later b d) = absurd (piece_or_fault b a)
one_fault (later b d) (here a) = absurd (piece_or_fault b a)
one_fault (later {q = q} {r = r} {k = k} {f = f} a d) (later {q = q'} {r = r'} {k = l} b e) =
    let same : step k q r ≡ step l q' r' = one_step a b in
    let moved : FaultIn q' r' f = subst (λ (x : Step). FaultIn x.place x.rest f) same d in
    one_fault moved e

pub not_both : {p : Place} {s : Text} {ks : List Piece} {f : Fault} → Pieces p s ks → FaultIn p s f → ⊥
not_both the_end (here a) = no_fault_at_end a
not_both the_end (later a d) = nothing_at_end a
not_both (a_piece a d) (here b) = piece_or_fault a b
not_both (a_piece {q = q} {r = r} {k = k} {ks = ks} a d) (later {q = q'} {r = r'} {k = l} b e) =
    let same : step k q r ≡ step l q' r' = one_step a b in
    let moved : Pieces q' r' ks = subst (λ (x : Step). Pieces x.place x.rest ks) same d in
    not_both moved e

same_length : {bytes : List ℕ} {n m : ℕ} → IsValidUpTo bytes n → IsValidUpTo bytes m → n ≡ m
same_length {bytes = bytes} {n = n} {m = m} a b = sym (utf8_valid_len-IsValidUpTo bytes n a) ∙ utf8_valid_len-IsValidUpTo bytes m b

pub one_answer : {bytes : List ℕ} {r s : Result (List LogicalLine) Fault} → Lexes bytes r → Lexes bytes s → r ≡ s
one_answer (too_large h) (too_large h') = refl
one_answer (too_large h) (no_text h' v n) = absurd (omega (arith, h, h'))
one_answer (too_large h) (at_fault h' u d) = absurd (omega (arith, h, h'))
one_answer (too_large h) (in_lines h' u d) = absurd (omega (arith, h, h'))
one_answer (no_text h v n) (too_large h') = absurd (omega (arith, h, h'))
one_answer {bytes = bytes} (no_text h v n) (no_text h' v' n') = ap (λ n. Err (fault (1 + line_feeds (take n bytes)) code.BadEncoding)) (same_length v v')
one_answer (no_text h v n) (at_fault h' u d) = absurd (n u)
one_answer (no_text h v n) (in_lines h' u d) = absurd (n u)
one_answer (at_fault h u d) (too_large h') = absurd (omega (arith, h, h'))
one_answer (at_fault h u d) (no_text h' v n) = absurd (n u)
one_answer (at_fault h u d) (at_fault h' u' d') = ap Err (one_fault d d')
one_answer (at_fault h u d) (in_lines h' u' d') = absurd (not_both d' d)
one_answer (in_lines h u d) (too_large h') = absurd (omega (arith, h, h'))
one_answer (in_lines h u d) (no_text h' v n) = absurd (n u)
one_answer (in_lines h u d) (at_fault h' u' d') = absurd (not_both d d')
one_answer (in_lines h u d) (in_lines h' u' d') = ap (λ ks. Ok (lines_of ks)) (one_list d d')

-- ---- the loop

-- what is left, in steps
abbrev pub left : Place → Text → ℕ
left p s = 2 * length s + cond p.fresh 1 0

fresh_bound : (b : Bool) → cond b 1 0 ≤ 1
fresh_bound true = omega arith
fresh_bound false = omega arith

record GoesOn (p : Place) (s : Text) (q : Place) (r : Text) : Type 0 where
  less : left q r < left p s
  line : q.line + length r ≤ p.line + length s
  depth : p.depth ≤ 100 → q.depth ≤ 100

spelled : (s r : Text) → length r ≤ length s → line_feeds (between s r) + length r ≤ length s
spelled s r h = omega (arith, h, count_by-le-length (λ c. c == 10) (between s r), length-take (length s - length r) s)

goes_on : {p : Place} {s r : Text} {q : Place} {k : Piece} → PieceAt p s r q k → GoesOn p s q r
goes_on (an_indentation {c = c} {s = s} f) = let h = drops (prefix_len is_blank (c ∷ s)) (c ∷ s) in record { less = rw f (omega (arith, h)); line = omega (arith, h); depth = λ d. d }
goes_on (blanks {s = s} f e) = let h = drops (prefix_len is_blank s) s in record { less = omega (arith, h); line = omega (arith, h); depth = λ d. d }
goes_on (a_comment {s = s} f e) = let h = drops (prefix_len in_comment s) s in record { less = omega (arith, h); line = omega (arith, h); depth = λ d. d }
goes_on (a_joined_line {c = c} {s = s} {r = r} f e h) = let l = line_end_shortens s r h in record { less = omega (arith, l); line = omega (arith, l); depth = λ d. d }
goes_on {p = p} (a_line_end {c = c} {s = s} {r = r} f e h) = let l = line_end_shortens (c ∷ s) r h in record { less = rw f (omega (arith, l, fresh_bound (p.depth == 0))); line = omega (arith, l); depth = λ d. d }
goes_on (a_token {s = s} {r = r} f d h n m) = let l = token_shortens d in record { less = omega (arith, l); line = omega (arith, l, spelled s r (omega (arith, l))); depth = λ d. m }

-- what has been read, with what is read from here, is what is read of the text
pub record ReadTo (text : Text) (reader : LineReader) (p : Place) (s : Text) : Type 0 where
  pub pieces : (ks : List Piece) → Pieces p s ks → (all : List Piece) × Pieces start text all × (lines_of all ≡ grouped reader ks)
  pub faults : (f : Fault) → FaultIn p s f → FaultIn start text f
  pub line : p.line + length s ≤ length text + 1
  pub depth : p.depth ≤ 100

no_token : {p : Place} {s r : Text} {q : Place} {k : Piece} → p.fresh ≡ true → PieceAt p s r q k → (ks : List Piece) → tokens_of (k ∷ ks) ≡ []
no_token f (an_indentation g) ks = refl
no_token f (blanks g e) ks = absurd cc
no_token f (a_comment g e) ks = absurd cc
no_token f (a_joined_line g e h) ks = absurd cc
no_token f (a_line_end g e h) ks = absurd cc
no_token f (a_token g d h n m) ks = absurd cc

no_tokens : {p : Place} {s : Text} {ks : List Piece} → p.fresh ≡ true → Pieces p s ks → tokens_of ks ≡ []
no_tokens f the_end = refl
no_tokens f (a_piece {ks = ks} a d) = no_token f a ks

begins_with : (reader : LineReader) (ks : List Piece) → reader.ended ≡ [] → reader.line.tokens ≡ [] → tokens_of ks ≡ [] → lines_of ks ≡ grouped reader ks
begins_with reader ks e t n = go reader.ended reader.line.tokens (tokens_of ks) e t n
  where
    go : (ended : List LogicalLine) (ts us : List Token) → ended ≡ [] → ts ≡ [] → us ≡ [] → lines_of ks ≡ ended ++ line_of reader.line.indent reader.line.line (ts ++ us) ++ lines_of ks
    go ended ts us e t n = rw (e, t, n) refl

pub begins : (text : Text) (reader : LineReader) → reader.ended ≡ [] → reader.line.tokens ≡ [] → ReadTo text reader start text
begins text reader e t = record { pieces = λ ks d. (ks, d, begins_with reader ks e t (no_tokens refl d)); faults = λ f d. d; line = omega arith; depth = omega arith }

abbrev Whole : Text → List LogicalLine → Type 0
Whole text lines = (all : List Piece) × Pieces start text all × (lines_of all ≡ lines)

put_in : (text : Text) (lines lines' : List LogicalLine) → lines ≡ lines' → Whole text lines → Whole text lines'
put_in text lines lines' e (all, d, h) = (all, d, h ∙ e)

pub more : (text : Text) (reader next : LineReader) (p : Place) (s : Text) (x : Step) → ReadTo text reader p s → PieceAt p s x.rest x.place x.piece → ((ks : List Piece) → grouped next ks ≡ grouped reader (x.piece ∷ ks)) → ReadTo text next x.place x.rest
more text reader next p s x so d put =
    let g = goes_on d in
    record {
      pieces = λ ks rest. put_in text (grouped reader (x.piece ∷ ks)) (grouped next ks) (sym (put ks)) (so.pieces (x.piece ∷ ks) (a_piece d rest));
      faults = λ f rest. so.faults f (later d rest);
      line = omega (arith, g.line, so.line);
      depth = g.depth so.depth;
    }

pub less : (p : Place) (s : Text) (x : Step) → PieceAt p s x.rest x.place x.piece → left x.place x.rest < left p s
less p s x d = (goes_on d).less

pub reads : (text : Text) (reader : LineReader) (p : Place) (s : Text) (lines : List LogicalLine) → ReadTo text reader p s → length s ≡ 0 → lines ≡ reader.ended ++ line_of reader.line.indent reader.line.line reader.line.tokens → IsRead text (Ok lines)
reads text reader p [] lines so h e = turned (put_in text (grouped reader []) lines (without_more ∙ sym e) (so.pieces [] the_end))
  where
    without_more : grouped reader [] ≡ reader.ended ++ line_of reader.line.indent reader.line.line reader.line.tokens
    without_more = ap (λ ts. reader.ended ++ line_of reader.line.indent reader.line.line ts ++ []) (append-nil reader.line.tokens) ∙ append-nil (reader.ended ++ line_of reader.line.indent reader.line.line reader.line.tokens)

    turned : Whole text lines → IsRead text (Ok lines)
    turned (all, d, h) = (all, d, sym h)
reads text reader p (c ∷ s) lines so h e = absurd (omega (arith, h))

pub stops : (text : Text) (reader : LineReader) (p : Place) (s : Text) (e : Stop) → ReadTo text reader p s → IsNoPiece p s e → IsBadReading text e
stops text reader p s (stop.Memory e) so h = tt
stops text reader p s (stop.Fault f) so h = so.faults f (here h)

-- ---- the call

pub so_too_large : (bytes : List ℕ) → greatest_size < length bytes → Lexes bytes (Err (fault 1 code.FileTooLarge))
so_too_large bytes h = too_large h

bad_text : {bytes : List ℕ} {f : Fault} → length bytes ≤ greatest_size → ¬ (IsUtf8 bytes) → (n : ℕ) × IsValidUpTo bytes n × (f ≡ fault (1 + line_feeds (take n bytes)) code.BadEncoding) → Lexes bytes (Err f)
bad_text {bytes = bytes} h u (n, v, e) = subst (λ f. Lexes bytes (Err f)) (sym e) (no_text h v u)

pub so_no_text : (bytes : List ℕ) (e : Stop) → length bytes ≤ greatest_size → IsBadText bytes e → IsSo bytes (Err e)
so_no_text bytes (stop.Memory e) h b = tt
so_no_text bytes (stop.Fault f) h b = bad_text h b.0 b.1

right_lines : {bytes : List ℕ} {lines : List LogicalLine} → length bytes ≤ greatest_size → IsUtf8 bytes → (ks : List Piece) × Pieces start (without_mark (chars bytes)) ks × (lines ≡ lines_of ks) → Lexes bytes (Ok lines)
right_lines {bytes = bytes} h u (ks, d, e) = subst (λ lines. Lexes bytes (Ok lines)) (sym e) (in_lines h u d)

pub so_read : (bytes : List ℕ) (characters text : List ℕ) (o : Result (List LogicalLine) Stop) → length bytes ≤ greatest_size → IsUtf8 bytes → characters ≡ chars bytes → text ≡ without_mark characters → IsRead text o → IsSo bytes o
so_read bytes characters text o h u c t r = go o (subst (λ s. IsRead s o) (t ∙ ap without_mark c) r)
  where
    go : (o : Result (List LogicalLine) Stop) → IsRead (without_mark (chars bytes)) o → IsSo bytes o
    go (Ok lines) r = right_lines h u r
    go (Err (stop.Memory e)) r = tt
    go (Err (stop.Fault f)) r = at_fault h u r

-- what is so is the one answer
pub answered : (bytes : List ℕ) (o : Result (List LogicalLine) Stop) → IsSo bytes o → IsAnswered bytes o
answered bytes (Ok lines) d = λ r e. one_answer e d
answered bytes (Err (stop.Fault f)) d = λ r e. one_answer e d
answered bytes (Err (stop.Memory e)) d = tt

-- a text has no more characters than bytes
pub fits_in : (bytes characters text : List ℕ) → length bytes ≤ greatest_size → IsUtf8 bytes → characters ≡ chars bytes → text ≡ without_mark characters → length text + 2 < 2 ^ 32
fits_in bytes characters text h u c t =
    let few : length (chars bytes) ≤ length bytes = subst (λ x. length (chars bytes) ≤ length x) (encodes-chars bytes u) (length-le-encodes (chars bytes)) in
    omega (arith, h, few, ap length c, ap length t, shorter characters)
  where
    shorter : (s : Text) → length (without_mark s) ≤ length s
    shorter [] = omega arith
    shorter (c ∷ s) = go (c == 65279)
      where
        go : (b : Bool) → length (cond b s (c ∷ s)) ≤ length (c ∷ s)
        go true = omega arith
        go false = omega arith
