-- The piece that is read at a place is the one that stands there, and where none is read none does.
use Rattle.std.proofs.Common.{◌≡◌, ℕ, ◌≤◌, ◌<◌, Bool, true, false, cond, [], ◌∷◌, drop, length, Option, Some, None, Result, Ok, Err, refl, sym, subst, arith}
use Rattle.std.specs.Prelude.{nat_le}
use Rattle.std.proofs.lemmas.Bool.{leb-true, leb-false}
use Rattle.std.proofs.lemmas.List.{length-drop}
use Rattle.py_tree.specs.declared.code.Code.TheVariants as code
use Rattle.py_tree.specs.declared.fault.Fault.{Fault}
use Rattle.py_tree.specs.declared.fault.Stop.{Stop}
use Rattle.py_tree.specs.declared.fault.Stop.TheVariants as stop
use Rattle.py_lexer.specs.declared.character.CharKind.{CharKind}
use Rattle.py_lexer.specs.declared.character.CharKind.TheVariants as kind
use Rattle.py_lexer.specs.declared.character.TokenKind.{TokenKind}
use Rattle.py_lexer.specs.declared.token.Token.{Token}
use Rattle.py_lexer.specs.declared.piece.Place.{Place}
use Rattle.py_lexer.specs.declared.piece.Step as code_piece
use Rattle.py_lexer.specs.Characters.{Text, after_line_end}
use Rattle.py_lexer.specs.Tokens.{TokenAt}
use Rattle.py_lexer.specs.Pieces.{fault, fits, depth_behind, PieceAt, an_indentation, blanks, a_comment, a_joined_line, a_line_end, a_token, NoPiece, no_token, no_line_end, no_joined_line, too_large, behind_tab, too_deep}
use Rattle.py_lexer.specs.Reading.{kind_at, Step, indentation_step, blanks_step, comment_step, line_end_by, line_end_step, joined_line_by, joined_line_step, token_step, settled_by, settled}
use Rattle.py_lexer.specs.Views.{IsNoToken, NoToken, IsFault, GivesStep, IsNoPiece, IsStep}
use Rattle.py_lexer.specs.Views as view

same_kind : {k k' : CharKind} → Some k ≡ Some k' → k ≡ k'
same_kind e = cc

abbrev pub IsReadStep : Place → Text → Result Step Fault → Type 0
IsReadStep p s (Ok x) = PieceAt p s x.rest x.place x.piece
IsReadStep p s (Err f) = NoPiece p s f

pub gives_step : (p : Place) (s : Text) (read : Result Step Fault) (o : Result code_piece.Step Stop) → GivesStep read o → IsReadStep p s read → IsStep p s o
gives_step p s read (Ok x) e h = subst (IsReadStep p s) e h
gives_step p s read (Err (stop.Memory e')) e h = tt
gives_step p s read (Err (stop.Fault f)) e h = subst (IsReadStep p s) e h

pub right_indentation : (p : Place) (s : Text) (x : Step) → p.fresh ≡ true → 0 < length s → x ≡ indentation_step p s → PieceAt p s x.rest x.place x.piece
right_indentation p [] x f h e = absurd (omega arith)
right_indentation p (c ∷ s) x f h e = subst (λ (x : Step). PieceAt p (c ∷ s) x.rest x.place x.piece) (sym e) (an_indentation f)

pub right_blanks : (p : Place) (s : Text) (x : Step) → p.fresh ≡ false → kind_at s ≡ Some kind.Blank → x ≡ blanks_step p s → PieceAt p s x.rest x.place x.piece
right_blanks p [] x f k e = absurd cc
right_blanks p (c ∷ s) x f k e = subst (λ (x : Step). PieceAt p (c ∷ s) x.rest x.place x.piece) (sym e) (blanks f (same_kind k))

pub right_comment : (p : Place) (s : Text) (x : Step) → p.fresh ≡ false → kind_at s ≡ Some kind.Hash → x ≡ comment_step p s → PieceAt p s x.rest x.place x.piece
right_comment p [] x f k e = absurd cc
right_comment p (c ∷ s) x f k e = subst (λ (x : Step). PieceAt p (c ∷ s) x.rest x.place x.piece) (sym e) (a_comment f (same_kind k))

pub right_line_end : (p : Place) (s : Text) → p.fresh ≡ false → kind_at s ≡ Some kind.LineEnd → IsReadStep p s (line_end_step p s)
right_line_end p [] f k = absurd cc
right_line_end p (c ∷ s) f k = go (after_line_end (c ∷ s)) refl
  where
    go : (o : Option Text) → after_line_end (c ∷ s) ≡ o → IsReadStep p (c ∷ s) (line_end_by p o)
    go None h = no_line_end f (same_kind k) h
    go (Some r) h = a_line_end f (same_kind k) h

pub right_joined_line : (p : Place) (s : Text) → p.fresh ≡ false → kind_at s ≡ Some kind.Backslash → IsReadStep p s (joined_line_step p s)
right_joined_line p [] f k = absurd cc
right_joined_line p (c ∷ s) f k = go (after_line_end s) refl
  where
    go : (o : Option Text) → after_line_end s ≡ o → IsReadStep p (c ∷ s) (joined_line_by p o)
    go None h = no_joined_line f (same_kind k) h
    go (Some r) h = a_joined_line f (same_kind k) h

pub right_settled : (p : Place) (s r : Text) (t : Token) → p.fresh ≡ false → TokenAt s r t → fits t ≡ true → IsReadStep p s (settled p t s r)
right_settled p s r t f d h = go p.tab refl
  where
    within : (b : Bool) → (b ≡ true → depth_behind p.depth t ≤ 100) → (b ≡ false → 100 < depth_behind p.depth t) → p.tab ≡ None → IsReadStep p s (cond b (Ok (token_step p t s r)) (Err (fault p.line code.TooDeep)))
    within true x y n = a_token f d h n (x refl)
    within false x y n = too_deep f d h n (y refl)

    go : (o : Option ℕ) → p.tab ≡ o → IsReadStep p s (settled_by p o t s r)
    go (Some line) n = behind_tab f d h n
    go None n = within (nat_le (depth_behind p.depth t) 100) (leb-true _ _) (leb-false _ _) n

pub right_no_token : (p : Place) (s : Text) (k : TokenKind) (e : Stop) → p.fresh ≡ false → kind_at s ≡ Some (kind.Token k) → IsNoToken p.line s e → IsNoPiece p s e
right_no_token p s k (stop.Memory e) f h n = tt
right_no_token p [] k (stop.Fault x) f h n = absurd cc
right_no_token p (c ∷ s) k (stop.Fault x) f h n = go n
  where
    go : {x : Fault} → NoToken p.line (c ∷ s) x → NoPiece p (c ∷ s) x
    go (view.none n) = no_token f (same_kind h) n
    go (view.too_large d l) = too_large f d l

-- ---- a token isn't empty

pub drops : (n : ℕ) (s : Text) → length (drop n s) ≤ length s
drops n s = omega (arith, length-drop n s)
