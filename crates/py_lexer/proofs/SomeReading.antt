-- Each text has a reading or a fault.
use Rattle.std.proofs.Common.{◌≡◌, ◌≤◌, ◌<◌, ◌+◌, ℕ, zero, suc, Bool, true, false, [], ◌∷◌, List, length, take, chars, Option, Some, None, Result, Ok, Err, refl, subst, arith}
use Rattle.std.specs.Prelude.{IsUtf8, nat_le}
use Rattle.std.specs.Str.{IsValidUpTo}
use Rattle.std.proofs.lemmas.Bool.{leb-true, leb-false}
use Rattle.std.proofs.lemmas.List.{take_all}
use Rattle.std.proofs.lemmas.Str.{IsUtf8-nil}
use Rattle.py_tree.specs.declared.fault.Fault.{Fault}
use Rattle.py_lexer.specs.declared.character.CharKind.{CharKind}
use Rattle.py_lexer.specs.declared.character.CharKind.TheVariants as kind
use Rattle.py_lexer.specs.declared.token.Token.{Token}
use Rattle.py_lexer.specs.declared.piece.Piece.{Piece}
use Rattle.py_lexer.specs.declared.piece.Place.{Place}
use Rattle.py_lexer.specs.Characters.{Text, after_line_end, kind_of}
use Rattle.py_lexer.specs.Tokens.{TokenAt}
use Rattle.py_lexer.specs.Pieces.{depth_behind, fits, start, PieceAt, an_indentation, blanks, a_comment, a_joined_line, a_line_end, a_token, NoPiece, no_token, no_line_end, no_joined_line, too_large as integer_too_large, behind_tab, too_deep, Pieces, the_end, a_piece, FaultIn, here, later}
use Rattle.py_lexer.specs.Reading.{step}
use Rattle.py_lexer.specs.Lexing.{greatest_size, without_mark, Lexes, too_large, no_text, at_fault, in_lines}
use Rattle.py_lexer.specs.EveryText.{HasSome, Reads}
use Rattle.py_lexer.proofs.WholeText.{left, less}

NoStep : Place → Text → Type 0
NoStep p s = (q : Place) (r : Text) (k : Piece) → PieceAt p s r q k → ⊥

NoFault : Place → Text → Type 0
NoFault p s = (f : Fault) → NoPiece p s f → ⊥

-- where a token stands, a piece or a fault does
of_token : (p : Place) (s r : Text) (t : Token) → p.fresh ≡ false → TokenAt s r t → NoStep p s → NoFault p s → ⊥
unfolding NoStep NoFault
of_token p s r t f d no_step no_fault = by (fits t) p.tab (nat_le (depth_behind p.depth t) 100) refl refl refl where
  by : (b : Bool) (o : Option ℕ) (shallow : Bool) → fits t ≡ b → p.tab ≡ o → nat_le (depth_behind p.depth t) 100 ≡ shallow → ⊥
  by false o shallow h i j = no_fault _ (integer_too_large f d h)
  by true (Some line) shallow h i j = no_fault _ (behind_tab f d h i)
  by true None true h i j = no_step _ _ _ (a_token f d h i (leb-true _ _ j))
  by true None false h i j = no_fault _ (too_deep f d h i (leb-false _ _ j))

-- at each place where something is left a piece or a fault stands
step_or_fault : (p : Place) (c : ℕ) (s : Text) → NoStep p (c ∷ s) → NoFault p (c ∷ s) → ⊥
unfolding NoStep NoFault
step_or_fault p c s no_step no_fault = by p.fresh (kind_of c) (after_line_end s) (after_line_end (c ∷ s)) refl refl refl refl where
  by : (fresh : Bool) (k : CharKind) (joined ended : Option Text) → p.fresh ≡ fresh → kind_of c ≡ k → after_line_end s ≡ joined → after_line_end (c ∷ s) ≡ ended → ⊥
  by true k joined ended f e h i = no_step _ _ _ (an_indentation f)
  by false kind.Blank joined ended f e h i = no_step _ _ _ (blanks f e)
  by false kind.Hash joined ended f e h i = no_step _ _ _ (a_comment f e)
  by false kind.LineEnd joined (Some r) f e h i = no_step _ _ _ (a_line_end f e i)
  by false kind.LineEnd joined None f e h i = no_fault _ (no_line_end f e i)
  by false kind.Backslash (Some r) ended f e h i = no_step _ _ _ (a_joined_line f e h)
  by false kind.Backslash None ended f e h i = no_fault _ (no_joined_line f e h)
  by false (kind.Token k) joined ended f e h i = no_fault _ (no_token f e (λ r t d. of_token p (c ∷ s) r t f d no_step no_fault))

reading : (n : ℕ) (p : Place) (s : Text) → left p s < n → ((ks : List Piece) → Pieces p s ks → ⊥) → ((f : Fault) → FaultIn p s f → ⊥) → ⊥
unfolding NoStep NoFault
reading zero p s small no_pieces no_fault = absurd (omega (arith, small))
reading (suc n) p [] small no_pieces no_fault = no_pieces [] the_end
reading (suc n) p (c ∷ s) small no_pieces no_fault =
    step_or_fault p c s
    (λ q r k d. reading n q r (omega (arith, small, less p (c ∷ s) (step k q r) d)) (λ ks e. no_pieces (k ∷ ks) (a_piece d e)) (λ f e. no_fault f (later d e)))
    (λ f d. no_fault f (here d))

pub some_reading : (p : Place) (s : Text) → HasSome (Reads p s)
some_reading p s none = reading (left p s + 1) p s (omega arith) (λ ks d. none (Ok ks) d) (λ f d. none (Err f) d)

-- ---- bytes

-- bytes that aren't UTF-8 have a longest front that is
no_front : (bytes : List ℕ) → ¬ (IsUtf8 bytes) → ((n : ℕ) → IsValidUpTo bytes n → ⊥) → (d m : ℕ) → length bytes ≤ m + d → ¬ (IsUtf8 (take m bytes))
no_front bytes bad none zero m h u = bad (subst IsUtf8 (take_all m bytes (omega (arith, h))) u)
no_front bytes bad none (suc d) m h u = by (nat_le (length bytes) m) refl (no_front bytes bad none d) where
  by : (b : Bool) → nat_le (length bytes) m ≡ b → ((k : ℕ) → length bytes ≤ k + d → ¬ (IsUtf8 (take k bytes))) → ⊥
  by true e longer = bad (subst IsUtf8 (take_all m bytes (leb-true _ _ e)) u)
  by false e longer = none m (record { short = leb-false _ _ e; front = u; longest = λ k after v. longer k (omega (arith, h, after)) v })

some_front : (bytes : List ℕ) → ¬ (IsUtf8 bytes) → HasSome (IsValidUpTo bytes)
some_front bytes bad none = no_front bytes bad none (length bytes) 0 (omega arith) IsUtf8-nil

pub some_answer : (bytes : List ℕ) → HasSome (Lexes bytes)
some_answer bytes none = by (nat_le (length bytes) greatest_size) refl where
  text : length bytes ≤ greatest_size → ¬ (IsUtf8 bytes)
  text small u = some_reading start (without_mark (chars bytes)) (answer small u) where
    answer : length bytes ≤ greatest_size → IsUtf8 bytes → (r : Result (List Piece) Fault) → Reads start (without_mark (chars bytes)) r → ⊥
    answer small u (Ok ks) d = none _ (in_lines small u d)
    answer small u (Err f) d = none _ (at_fault small u d)

  by : (b : Bool) → nat_le (length bytes) greatest_size ≡ b → ⊥
  by false h = none _ (too_large (leb-false _ _ h))
  by true h = let small : length bytes ≤ greatest_size = leb-true _ _ h in some_front bytes (text small) (λ n v. none _ (no_text small v (text small)))
