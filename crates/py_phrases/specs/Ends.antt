-- Where a phrase that is a whole may end: an expression that stands alone (level E), and an expression or tuple (level L).
use Rattle.std.specs.Prelude.{[], ◌∷◌}
use Rattle.py_lexer.specs.declared.token.Token.TheVariants as token
use Rattle.py_lexer.specs.declared.token.Keyword.TheVariants as word
use Rattle.py_lexer.specs.declared.token.Mark.TheVariants as mark
use Rattle.py_phrases.specs.Grammar.{Tokens, Level, E, L}

abbrev pub EndsList : Tokens → Type 0
EndsList [] = Unit {0}
EndsList (token.Mark mark.Equal ∷ r) = Unit {0}
EndsList (token.Mark mark.Colon ∷ r) = Unit {0}
EndsList (token.Mark mark.PlusEqual ∷ r) = Unit {0}
EndsList (token.Mark mark.MinusEqual ∷ r) = Unit {0}
EndsList (token.Mark mark.StarEqual ∷ r) = Unit {0}
EndsList (token.Mark mark.DoubleSlashEqual ∷ r) = Unit {0}
EndsList (token.Mark mark.PercentEqual ∷ r) = Unit {0}
EndsList _ = ⊥

abbrev pub EndsLone : Tokens → Type 0
EndsLone [] = Unit {0}
EndsLone (token.Mark mark.Colon ∷ r) = Unit {0}
EndsLone (token.Mark mark.Comma ∷ r) = Unit {0}
EndsLone (token.Mark mark.RightParen ∷ r) = Unit {0}
EndsLone (token.Mark mark.Equal ∷ r) = Unit {0}
EndsLone (token.Mark mark.RightArrow ∷ r) = Unit {0}
EndsLone (token.Word word.As ∷ r) = Unit {0}
EndsLone _ = ⊥

abbrev pub IsEnd : Level → Tokens → Type 0
IsEnd L r = EndsList r
IsEnd E r = EndsLone r
IsEnd _ r = ⊥
