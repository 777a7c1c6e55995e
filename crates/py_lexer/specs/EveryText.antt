-- Each text has a reading or a fault. Whether a token stands at a place isn't decided here, so existence is said by double negation:
-- by the law of the excluded middle it is the same.
use Rattle.std.specs.Prelude.{ℕ, List, Result, Ok, Err}
use Rattle.py_tree.specs.declared.fault.Fault.{Fault}
use Rattle.py_lexer.specs.declared.piece.Piece.{Piece}
use Rattle.py_lexer.specs.declared.piece.Place.{Place}
use Rattle.py_lexer.specs.Characters.{Text}
use Rattle.py_lexer.specs.Pieces.{FaultIn, Pieces}
use Rattle.py_lexer.specs.Lexing.{Lexes}

-- it is not so that none has it: there is one
abbrev pub HasSome : {X : Type 0} → (X → Type 0) → Type 0
HasSome {X} P = ((x : X) → P x → ⊥) → ⊥

-- the pieces of a text from a place on, or the first fault in it
abbrev pub Reads : Place → Text → Result (List Piece) Fault → Type 0
Reads p s (Ok ks) = Pieces p s ks
Reads p s (Err f) = FaultIn p s f

pub record EveryText : Type 0 where
  -- from each place on there are pieces or a fault
  pub places : (p : Place) (s : Text) → HasSome (Reads p s)
  -- so all bytes lex to something
  pub answers : (bytes : List ℕ) → HasSome (Lexes bytes)
