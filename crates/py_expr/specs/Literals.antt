-- That no integer literal in a form is above the greatest `int`.
use Rattle.std.specs.Prelude.{◌≡◌, Bool, true, ◌&&◌, Some, None}
use Rattle.py_tree.specs.Literals.{fits, maybe_fits, params_fit, target_fits, kind_fits}
use Rattle.py_lexer.specs.Literals.{tokens_fit}
use Rattle.py_phrases.specs.Grammar.{Tokens}
use Rattle.py_expr.specs.Forms as form
use Rattle.py_expr.specs.Forms.{Form, Head}
use Rattle.py_expr.specs.Lines.{Line}

abbrev pub head_fits : Head → Bool
head_fits (form.If e) = fits e
head_fits (form.Elif e) = fits e
head_fits form.Else = true
head_fits (form.While e) = fits e
head_fits (form.For g e) = target_fits g && fits e
head_fits form.Try = true
head_fits (form.Except matches name) = maybe_fits matches
head_fits (form.Def name params result) = params_fit params && maybe_fits result
head_fits (form.Class name base) = maybe_fits base

abbrev pub form_fits : Form → Bool
form_fits (form.Header h None) = head_fits h
form_fits (form.Header h (Some k)) = head_fits h && kind_fits k
form_fits (form.Simple k) = kind_fits k

-- the literals of a form fit where those among its tokens do
abbrev pub FormsFit : Type 0
FormsFit = (tokens : Tokens) (f : Form) → Line tokens f → tokens_fit tokens ≡ true → form_fits f ≡ true
