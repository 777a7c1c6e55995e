-- No definition of the language: what stands behind the parts of a line where they end.
use Rattle.std.specs.Prelude.{[], ◌∷◌}
use Rattle.py_lexer.specs.declared.token.Token.TheVariants as token
use Rattle.py_lexer.specs.declared.token.Mark.TheVariants as mark
use Rattle.py_phrases.specs.Grammar.{Tokens}

-- behind what ends with a token of its own
abbrev pub Anything : Tokens → Type 0
Anything r = Unit {0}

-- behind names with commas between: neither a name nor a comma stands there
abbrev pub EndsNames : Tokens → Type 0
EndsNames (token.Name n ∷ r) = ⊥
EndsNames (token.Mark mark.Comma ∷ r) = ⊥
EndsNames r = Unit {0}

-- behind a parameter
abbrev pub EndsParameter : Tokens → Type 0
EndsParameter (token.Mark mark.Comma ∷ r) = Unit {0}
EndsParameter (token.Mark mark.RightParen ∷ r) = Unit {0}
EndsParameter _ = ⊥

-- behind its annotation
abbrev pub EndsAnnotation : Tokens → Type 0
EndsAnnotation (token.Mark mark.Equal ∷ r) = Unit {0}
EndsAnnotation (token.Mark mark.Comma ∷ r) = Unit {0}
EndsAnnotation (token.Mark mark.RightParen ∷ r) = Unit {0}
EndsAnnotation _ = ⊥

-- behind an import item
abbrev pub EndsItem : Tokens → Type 0
EndsItem [] = Unit {0}
EndsItem (token.Mark mark.Comma ∷ r) = Unit {0}
EndsItem (token.Mark mark.RightParen ∷ r) = Unit {0}
EndsItem _ = ⊥

-- behind all import items
abbrev pub EndsItems : Tokens → Type 0
EndsItems [] = Unit {0}
EndsItems (token.Mark mark.RightParen ∷ r) = Unit {0}
EndsItems (token.Mark mark.Comma ∷ token.Mark mark.RightParen ∷ r) = Unit {0}
EndsItems _ = ⊥
