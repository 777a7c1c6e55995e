-- At each place one piece stands, or one fault is found.
use Rattle.std.proofs.Common.{◌≡◌, ℕ, ◌≤◌, Bool, true, false, [], drop, Option, Some, None, Ok, refl, sym, ap, ◌∙◌}
use Rattle.std.specs.Prelude.{nat_le}
use Rattle.std.proofs.lemmas.Bool.{le-leb, lt-leb}
use Rattle.py_tree.specs.declared.code.Code.TheVariants as code
use Rattle.py_tree.specs.declared.fault.Fault.{Fault}
use Rattle.py_lexer.specs.declared.character.CharKind.{CharKind}
use Rattle.py_lexer.specs.declared.character.CharKind.TheVariants as kind
use Rattle.py_lexer.specs.declared.character.TokenKind.{TokenKind}
use Rattle.py_lexer.specs.declared.token.Token.{Token}
use Rattle.py_lexer.specs.declared.piece.Piece.{Piece}
use Rattle.py_lexer.specs.declared.piece.Place.{Place}
use Rattle.py_lexer.specs.Characters.{Text, after_line_end}
use Rattle.py_lexer.specs.Tokens.{TokenAt, a_name, an_integer, a_string, a_mark}
use Rattle.py_lexer.specs.Pieces.{fault, fits, depth_behind, PieceAt, an_indentation, blanks, a_comment, a_joined_line, a_line_end, a_token, NoPiece, no_token, no_line_end, no_joined_line, too_large, behind_tab, too_deep}
use Rattle.py_lexer.specs.Reading.{Lexeme, lexeme, kind_at, Step, step, indentation_step, blanks_step, comment_step, line_end_by, line_end_step, joined_line_by, joined_line_step, token_step}
use Rattle.py_lexer.proofs.Lexemes.{one_token}

-- ---- by what a place begins

token_head : {s r : Text} {t : Token} → TokenAt s r t → (k : TokenKind) × (kind_at s ≡ Some (kind.Token k))
token_head (a_name e n q) = (_, ap Some e)
token_head (an_integer e d) = (_, ap Some e)
token_head (a_string e d) = (_, ap Some e)
token_head (a_mark e d) = (_, ap Some e)

no_kind : {s r : Text} {t : Token} {k : CharKind} → TokenAt s r t → kind_at s ≡ Some k → ((j : TokenKind) → k ≡ kind.Token j → ⊥) → ⊥
no_kind {s = s} {k = k} d e n = go (token_head d)
  where
    go : (j : TokenKind) × (kind_at s ≡ Some (kind.Token j)) → ⊥
    go (j, h) = n j (let x : Some k ≡ Some (kind.Token j) = sym e ∙ h in cc)

indentation_inverted : {p : Place} {s r : Text} {q : Place} {k : Piece} → p.fresh ≡ true → PieceAt p s r q k → step k q r ≡ indentation_step p s
indentation_inverted f (an_indentation g) = refl
indentation_inverted f (blanks g e) = absurd cc
indentation_inverted f (a_comment g e) = absurd cc
indentation_inverted f (a_joined_line g e h) = absurd cc
indentation_inverted f (a_line_end g e h) = absurd cc
indentation_inverted f (a_token g d h n m) = absurd cc

blanks_inverted : {p : Place} {s r : Text} {q : Place} {k : Piece} → p.fresh ≡ false → kind_at s ≡ Some kind.Blank → PieceAt p s r q k → step k q r ≡ blanks_step p s
blanks_inverted f k (an_indentation g) = absurd cc
blanks_inverted f k (blanks g e) = refl
blanks_inverted f k (a_comment g e) = absurd cc
blanks_inverted f k (a_joined_line g e h) = absurd cc
blanks_inverted f k (a_line_end g e h) = absurd cc
blanks_inverted f k (a_token g d h n m) = absurd (no_kind d k (λ j e. absurd cc))

comment_inverted : {p : Place} {s r : Text} {q : Place} {k : Piece} → p.fresh ≡ false → kind_at s ≡ Some kind.Hash → PieceAt p s r q k → step k q r ≡ comment_step p s
comment_inverted f k (an_indentation g) = absurd cc
comment_inverted f k (blanks g e) = absurd cc
comment_inverted f k (a_comment g e) = refl
comment_inverted f k (a_joined_line g e h) = absurd cc
comment_inverted f k (a_line_end g e h) = absurd cc
comment_inverted f k (a_token g d h n m) = absurd (no_kind d k (λ j e. absurd cc))

line_end_inverted : {p : Place} {s r : Text} {q : Place} {k : Piece} → p.fresh ≡ false → kind_at s ≡ Some kind.LineEnd → PieceAt p s r q k → Ok (step k q r) ≡ line_end_step p s
line_end_inverted f k (an_indentation g) = absurd cc
line_end_inverted f k (blanks g e) = absurd cc
line_end_inverted f k (a_comment g e) = absurd cc
line_end_inverted f k (a_joined_line g e h) = absurd cc
line_end_inverted {p = p} f k (a_line_end g e h) = sym (ap (line_end_by p) h)
line_end_inverted f k (a_token g d h n m) = absurd (no_kind d k (λ j e. absurd cc))

joined_line_inverted : {p : Place} {s r : Text} {q : Place} {k : Piece} → p.fresh ≡ false → kind_at s ≡ Some kind.Backslash → PieceAt p s r q k → Ok (step k q r) ≡ joined_line_step p s
joined_line_inverted f k (an_indentation g) = absurd cc
joined_line_inverted f k (blanks g e) = absurd cc
joined_line_inverted f k (a_comment g e) = absurd cc
joined_line_inverted {p = p} f k (a_joined_line g e h) = sym (ap (joined_line_by p) h)
joined_line_inverted f k (a_line_end g e h) = absurd cc
joined_line_inverted f k (a_token g d h n m) = absurd (no_kind d k (λ j e. absurd cc))

record IsTokenPiece (p : Place) (s r : Text) (x : Step) : Type 0 where
  token : Token
  stands : TokenAt s r token
  fit : fits token ≡ true
  no_tab : p.tab ≡ None
  shallow : depth_behind p.depth token ≤ 100
  same : x ≡ token_step p token s r

token_inverted : {p : Place} {s r : Text} {q : Place} {k : Piece} {j : TokenKind} → p.fresh ≡ false → kind_at s ≡ Some (kind.Token j) → PieceAt p s r q k → IsTokenPiece p s r (step k q r)
token_inverted f k (an_indentation g) = absurd cc
token_inverted f k (blanks g e) = absurd cc
token_inverted f k (a_comment g e) = absurd cc
token_inverted f k (a_joined_line g e h) = absurd cc
token_inverted f k (a_line_end g e h) = absurd cc
token_inverted f k (a_token {t = t} g d h n m) = record { token = t; stands = d; fit = h; no_tab = n; shallow = m; same = refl }

token_steps : (p : Place) (s r r' : Text) (t t' : Token) → lexeme t r ≡ lexeme t' r' → token_step p t s r ≡ token_step p t' s r'
token_steps p s r r' t t' e = ap (λ (x : Lexeme). token_step p x.token s x.rest) e

pub one_step : {p : Place} {s r r' : Text} {q q' : Place} {k k' : Piece} → PieceAt p s r q k → PieceAt p s r' q' k' → step k q r ≡ step k' q' r'
one_step (an_indentation f) b = sym (indentation_inverted f b)
one_step (blanks f e) b = sym (blanks_inverted f (ap Some e) b)
one_step (a_comment f e) b = sym (comment_inverted f (ap Some e) b)
one_step {p = p} (a_joined_line f e h) b = let x = joined_line_inverted f (ap Some e) b in let y = ap (joined_line_by p) h in cc
one_step {p = p} (a_line_end f e h) b = let x = line_end_inverted f (ap Some e) b in let y = ap (line_end_by p) h in cc
one_step {p = p} {s = s} {r = r} {r' = r'} (a_token {t = t} f d h n m) b =
    let x = token_inverted f ((token_head d).1) b in
    token_steps p s r r' t x.token (one_token d x.stands) ∙ sym x.same

pub nothing_at_end : {p : Place} {r : Text} {q : Place} {k : Piece} → PieceAt p [] r q k → ⊥
nothing_at_end (a_token f d h n m) = elim d [ ]

-- ---- faults

-- the fault of a token that stands
abbrev token_fault_by : Bool → Option ℕ → Bool → Place → Option Fault
token_fault_by false tab shallow p = Some (fault p.line code.IntegerTooLarge)
token_fault_by true (Some line) shallow p = Some (fault line code.TabIndentation)
token_fault_by true None true p = None
token_fault_by true None false p = Some (fault p.line code.TooDeep)

abbrev token_fault : Place → Token → Option Fault
token_fault p t = token_fault_by (fits t) p.tab (nat_le (depth_behind p.depth t) 100) p

-- why there is a fault
data Cause (p : Place) (s : Text) (f : Fault) : Type 0 where
  no_end : (kind_at s ≡ Some kind.LineEnd) → after_line_end s ≡ None → f ≡ fault p.line code.BadToken → Cause p s f
  no_joined : (kind_at s ≡ Some kind.Backslash) → after_line_end (drop 1 s) ≡ None → f ≡ fault p.line code.BadToken → Cause p s f
  no_lexeme : {k : TokenKind} → kind_at s ≡ Some (kind.Token k) → ((r : Text) (t : Token) → TokenAt s r t → ⊥) → f ≡ fault p.line code.BadToken → Cause p s f
  of_token : {r : Text} {t : Token} → TokenAt s r t → token_fault p t ≡ Some f → Cause p s f

caused : {p : Place} {s : Text} {f : Fault} → NoPiece p s f → Cause p s f
caused (no_token g e n) = no_lexeme (ap Some e) n refl
caused (no_line_end g e h) = no_end (ap Some e) h refl
caused (no_joined_line g e h) = no_joined (ap Some e) h refl
caused {p = p} (too_large {t = t} g d h) = of_token d (ap (λ b. token_fault_by b p.tab (nat_le (depth_behind p.depth t) 100) p) h)
caused {p = p} (behind_tab {t = t} g d h n) = of_token d (ap (λ b. token_fault_by b p.tab (nat_le (depth_behind p.depth t) 100) p) h ∙ ap (λ o. token_fault_by true o (nat_le (depth_behind p.depth t) 100) p) n)
caused {p = p} (too_deep {t = t} g d h n m) = of_token d (ap (λ b. token_fault_by b p.tab (nat_le (depth_behind p.depth t) 100) p) h ∙ ap (λ o. token_fault_by true o (nat_le (depth_behind p.depth t) 100) p) n ∙ ap (λ b. token_fault_by true None b p) (lt-leb (depth_behind p.depth t) 100 m))

not_fresh : {p : Place} {s : Text} {f : Fault} → NoPiece p s f → p.fresh ≡ false
not_fresh (no_token g e n) = g
not_fresh (no_line_end g e h) = g
not_fresh (no_joined_line g e h) = g
not_fresh (too_large g d h) = g
not_fresh (behind_tab g d h n) = g
not_fresh (too_deep g d h n m) = g

same_token_fault : (p : Place) {s r r' : Text} {t t' : Token} → TokenAt s r t → TokenAt s r' t' → token_fault p t ≡ token_fault p t'
same_token_fault p a b = ap (λ (x : Lexeme). token_fault p x.token) (one_token a b)

no_token_fault : (p : Place) (t : Token) → fits t ≡ true → p.tab ≡ None → depth_behind p.depth t ≤ 100 → token_fault p t ≡ None
no_token_fault p t h n m =
    ap (λ b. token_fault_by b p.tab (nat_le (depth_behind p.depth t) 100) p) h ∙ ap (λ o. token_fault_by true o (nat_le (depth_behind p.depth t) 100) p) n
    ∙ ap (λ b. token_fault_by true None b p) (le-leb (depth_behind p.depth t) 100 m)

refuted : {p : Place} {s r : Text} {q : Place} {k : Piece} {f : Fault} → p.fresh ≡ false → PieceAt p s r q k → Cause p s f → ⊥
refuted {p = p} g a (no_end e h e') = let x = line_end_inverted g e a in let y = ap (line_end_by p) h in absurd cc
refuted {p = p} g a (no_joined e h e') = let x = joined_line_inverted g e a in let y = ap (joined_line_by p) h in absurd cc
refuted g a (no_lexeme e n e') = let x = token_inverted g e a in n _ x.token x.stands
refuted {p = p} g a (of_token {t = t} d e) =
    let x = token_inverted g ((token_head d).1) a in
    let y : token_fault p t ≡ None = same_token_fault p d x.stands ∙ no_token_fault p x.token x.fit x.no_tab x.shallow in
    absurd cc

pub piece_or_fault : {p : Place} {s r : Text} {q : Place} {k : Piece} {f : Fault} → PieceAt p s r q k → NoPiece p s f → ⊥
piece_or_fault a b = refuted (not_fresh b) a (caused b)

one_cause : {p : Place} {s : Text} {f f' : Fault} → Cause p s f → Cause p s f' → f ≡ f'
one_cause (no_end e h i) (no_end e' h' i') = i ∙ sym i'
one_cause (no_end e h i) (no_joined e' h' i') = i ∙ sym i'
one_cause (no_end e h i) (no_lexeme e' n' i') = i ∙ sym i'
one_cause (no_end e h i) (of_token d' i') = absurd (no_kind d' e (λ j e. absurd cc))
one_cause (no_joined e h i) (no_end e' h' i') = i ∙ sym i'
one_cause (no_joined e h i) (no_joined e' h' i') = i ∙ sym i'
one_cause (no_joined e h i) (no_lexeme e' n' i') = i ∙ sym i'
one_cause (no_joined e h i) (of_token d' i') = absurd (no_kind d' e (λ j e. absurd cc))
one_cause (no_lexeme e n i) (no_end e' h' i') = i ∙ sym i'
one_cause (no_lexeme e n i) (no_joined e' h' i') = i ∙ sym i'
one_cause (no_lexeme e n i) (no_lexeme e' n' i') = i ∙ sym i'
one_cause (no_lexeme e n i) (of_token d' i') = absurd (n _ _ d')
one_cause (of_token d i) (no_end e' h' i') = absurd (no_kind d e' (λ j e. absurd cc))
one_cause (of_token d i) (no_joined e' h' i') = absurd (no_kind d e' (λ j e. absurd cc))
one_cause (of_token d i) (no_lexeme e' n' i') = absurd (n' _ _ d)
one_cause {p = p} (of_token {t = t} d i) (of_token {t = t'} d' i') = let x = same_token_fault p d d' in cc

pub one_place_fault : {p : Place} {s : Text} {f f' : Fault} → NoPiece p s f → NoPiece p s f' → f ≡ f'
one_place_fault a b = one_cause (caused a) (caused b)

pub no_fault_at_end : {p : Place} {f : Fault} → NoPiece p [] f → ⊥
no_fault_at_end (too_large g d h) = elim d [ ]
no_fault_at_end (behind_tab g d h n) = elim d [ ]
no_fault_at_end (too_deep g d h n m) = elim d [ ]
