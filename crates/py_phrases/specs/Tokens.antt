-- The tokens that the grammar names.
use Rattle.py_lexer.specs.declared.token.Token.{Token}
use Rattle.py_lexer.specs.declared.token.Token.TheVariants as token
use Rattle.py_lexer.specs.declared.token.Keyword.TheVariants as word
use Rattle.py_lexer.specs.declared.token.Mark.TheVariants as mark

abbrev pub double_slash_equal : Token
double_slash_equal = token.Mark mark.DoubleSlashEqual

abbrev pub equal_equal : Token
equal_equal = token.Mark mark.EqualEqual

abbrev pub not_equal : Token
not_equal = token.Mark mark.NotEqual

abbrev pub less_equal : Token
less_equal = token.Mark mark.LessEqual

abbrev pub greater_equal : Token
greater_equal = token.Mark mark.GreaterEqual

abbrev pub plus_equal : Token
plus_equal = token.Mark mark.PlusEqual

abbrev pub minus_equal : Token
minus_equal = token.Mark mark.MinusEqual

abbrev pub star_equal : Token
star_equal = token.Mark mark.StarEqual

abbrev pub percent_equal : Token
percent_equal = token.Mark mark.PercentEqual

abbrev pub arrow : Token
arrow = token.Mark mark.RightArrow

abbrev pub double_slash : Token
double_slash = token.Mark mark.DoubleSlash

abbrev pub plus : Token
plus = token.Mark mark.Plus

abbrev pub minus : Token
minus = token.Mark mark.Minus

abbrev pub star : Token
star = token.Mark mark.Star

abbrev pub percent : Token
percent = token.Mark mark.Percent

abbrev pub less : Token
less = token.Mark mark.Less

abbrev pub greater : Token
greater = token.Mark mark.Greater

abbrev pub equal : Token
equal = token.Mark mark.Equal

abbrev pub left_paren : Token
left_paren = token.Mark mark.LeftParen

abbrev pub right_paren : Token
right_paren = token.Mark mark.RightParen

abbrev pub left_bracket : Token
left_bracket = token.Mark mark.LeftBracket

abbrev pub right_bracket : Token
right_bracket = token.Mark mark.RightBracket

abbrev pub left_brace : Token
left_brace = token.Mark mark.LeftBrace

abbrev pub right_brace : Token
right_brace = token.Mark mark.RightBrace

abbrev pub comma : Token
comma = token.Mark mark.Comma

abbrev pub colon : Token
colon = token.Mark mark.Colon

abbrev pub dot : Token
dot = token.Mark mark.Dot

abbrev pub false_ : Token
false_ = token.Word word.False

abbrev pub none : Token
none = token.Word word.None

abbrev pub true_ : Token
true_ = token.Word word.True

abbrev pub and_ : Token
and_ = token.Word word.And

abbrev pub as_ : Token
as_ = token.Word word.As

abbrev pub break_ : Token
break_ = token.Word word.Break

abbrev pub class_ : Token
class_ = token.Word word.Class

abbrev pub continue_ : Token
continue_ = token.Word word.Continue

abbrev pub def_ : Token
def_ = token.Word word.Def

abbrev pub elif_ : Token
elif_ = token.Word word.Elif

abbrev pub else_ : Token
else_ = token.Word word.Else

abbrev pub except_ : Token
except_ = token.Word word.Except

abbrev pub for_ : Token
for_ = token.Word word.For

abbrev pub from_ : Token
from_ = token.Word word.From

abbrev pub if_ : Token
if_ = token.Word word.If

abbrev pub import_ : Token
import_ = token.Word word.Import

abbrev pub in_ : Token
in_ = token.Word word.In

abbrev pub is_ : Token
is_ = token.Word word.Is

abbrev pub not_ : Token
not_ = token.Word word.Not

abbrev pub or_ : Token
or_ = token.Word word.Or

abbrev pub pass_ : Token
pass_ = token.Word word.Pass

abbrev pub raise_ : Token
raise_ = token.Word word.Raise

abbrev pub return_ : Token
return_ = token.Word word.Return

abbrev pub try_ : Token
try_ = token.Word word.Try

abbrev pub while_ : Token
while_ = token.Word word.While
