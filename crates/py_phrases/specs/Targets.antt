-- The grammar of targets, with a constructor for each alternative. `Thing s r y`: at the front of the tokens s stands a thing that
-- spells y, and the tokens r follow it. `{..}` is any number of times, `[..]` once or not at all.
use Rattle.std.specs.Prelude.{ℕ, max, List, [], ◌∷◌}
use Rattle.py_tree.specs.Syntax as x
use Rattle.py_tree.specs.Syntax.{Text, Expression, Target}
use Rattle.py_tree.specs.Nesting.{nesting}
use Rattle.py_lexer.specs.declared.token.Token.TheVariants as token
use Rattle.py_phrases.specs.Tokens as t
use Rattle.py_phrases.specs.Grammar.{Tokens, Spells, P, L}

-- many = NAME {"," NAME} "," NAME [","]
pub data Many : Tokens → Tokens → List Text → Type 0 where
  two_names : {r : Tokens} {a b : Text} → Many (token.Name a ∷ t.comma ∷ token.Name b ∷ r) r (a ∷ b ∷ [])
  two_names_and_comma : {r : Tokens} {a b : Text} → Many (token.Name a ∷ t.comma ∷ token.Name b ∷ t.comma ∷ r) r (a ∷ b ∷ [])
  another_name : {s r : Tokens} {a : Text} {names : List Text} → Many s r names → Many (token.Name a ∷ t.comma ∷ s) r (a ∷ names)

-- names = NAME | many | "(" many ")"
pub data Names : Tokens → Tokens → Target → Type 0 where
  one_name : {r : Tokens} {a : Text} → Names (token.Name a ∷ r) r (x.ToName a)
  many_names : {s r : Tokens} {names : List Text} → Many s r names → Names s r (x.ToNames names)
  names_in_parentheses : {s r : Tokens} {names : List Text} → Many s (t.right_paren ∷ r) names → Names (t.left_paren ∷ s) r (x.ToNames names)

-- place = NAME | P "." NAME | P "[" L "]"
pub data Place : Tokens → Tokens → Target → Type 0 where
  to_name : {r : Tokens} {a : Text} → Place (token.Name a ∷ r) r (x.ToName a)
  to_attribute : {s r : Tokens} {e : Expression} {a : Text} → Spells P s (t.dot ∷ token.Name a ∷ r) e → Place s r (x.ToAttr e a)
  to_index : {s m r : Tokens} {e i : Expression} → Spells P s (t.left_bracket ∷ m) e → Spells L m (t.right_bracket ∷ r) i → Place s r (x.ToIndex e i)

-- target = place | many | "(" many ")"
pub data Assigned : Tokens → Tokens → Target → Type 0 where
  to_place : {s r : Tokens} {g : Target} → Place s r g → Assigned s r g
  to_names : {s r : Tokens} {names : List Text} → Many s r names → Assigned s r (x.ToNames names)
  to_names_in_parentheses : {s r : Tokens} {names : List Text} → Many s (t.right_paren ∷ r) names → Assigned (t.left_paren ∷ s) r (x.ToNames names)

-- ---- nesting

-- that of the deepest expression in the target, which isn't one itself
abbrev pub target_nesting : Target → ℕ
target_nesting (x.ToName n) = 0
target_nesting (x.ToAttr e n) = nesting e
target_nesting (x.ToIndex e i) = max (nesting e) (nesting i)
target_nesting (x.ToNames names) = 0
