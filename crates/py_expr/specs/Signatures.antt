-- No definition of the language: what is known of the parameters that were read.
use Rattle.std.specs.Prelude.{◌≡◌, Bool, true, false, List, ◌∷◌, Option, Some, None, is_some}
use Rattle.py_tree.specs.Syntax.{Param}
use Rattle.py_tree.specs.Joined.{param_of}
use Rattle.py_tree.specs.declared.expression.Param as tree
use Rattle.py_lexer.specs.declared.token.Token.TheVariants as token
use Rattle.py_lexer.specs.declared.token.Mark.TheVariants as mark
use Rattle.py_expr.specs.declared.parameters.ReadParam.{ReadParam}
use Rattle.py_phrases.specs.declared.phrase.Built.{Built}
use Rattle.py_phrases.specs.Grammar.{Tokens}
use Rattle.py_expr.specs.Lines.{Parameter, defaults_last}
use Rattle.py_expr.specs.LineEnds.{EndsParameter}
use Rattle.py_expr.specs.Depth.{param_nesting}
use Rattle.py_expr.specs.Readings.{IsFound, BeforeParen}

-- params ")", with the defaults last
abbrev pub Signature : Tokens → Tokens → List Param → Type 0
Signature s r ps = BeforeParen s r ps × (defaults_last ps ≡ true)

-- whether a default begins there
abbrev pub begins_default : Tokens → Bool
begins_default (token.Mark mark.Equal ∷ r) = true
begins_default _ = false

-- a parameter, and whether it has a default
pub record IsParam (s : Tokens) (built : Built tree.Param) (has_default : Bool) (r : Tokens) : Type 0 where
  pub found : IsFound Parameter EndsParameter param_of param_nesting s built r
  pub default : EndsParameter r → is_some found.thing.default ≡ has_default

abbrev pub ParamAt : Tokens → Option ReadParam → Type 0
ParamAt s None = (q : Tokens) (z : Param) → Parameter s q z → EndsParameter q → ⊥
ParamAt s (Some read) = IsParam s read.built read.has_default read.rest.now
