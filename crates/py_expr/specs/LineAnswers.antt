-- What `line_form` answers for the tokens of a logical line.
use Rattle.std.specs.Prelude.{◌≡◌, ◌≤◌, ◌<◌, ◌⊎◌, ℕ, Result, Ok, Err}
use Rattle.py_tree.specs.declared.code.Code.TheVariants.{NoForm, TooDeep}
use Rattle.py_tree.specs.declared.fault.Fault.{Fault}
use Rattle.py_tree.specs.declared.fault.Stop.{Stop}
use Rattle.py_tree.specs.declared.fault.Stop.TheVariants as stop
use Rattle.py_expr.specs.declared.form.Form as tree
use Rattle.py_expr.specs.Forms.{Form, form_of}
use Rattle.py_phrases.specs.Grammar.{Tokens}
use Rattle.py_expr.specs.Lines.{Line}
use Rattle.py_expr.specs.Depth.{form_nesting}

-- the tokens spell a form with an expression that is nested past 200 levels
pub record SpellsDeep (tokens : Tokens) : Type 0 where
  pub form : Form
  pub spelled : Line tokens form
  pub deep : 200 < form_nesting form

-- why the line with that number is refused
abbrev pub IsFault : Tokens → ℕ → Fault → Type 0
IsFault tokens line fault =
    ((fault ≡ record { line = line; code = NoForm }) × ((f : Form) → Line tokens f → ⊥))
    ⊎ ((fault ≡ record { line = line; code = TooDeep }) × SpellsDeep tokens)

-- What is answered is so. Want of memory says nothing of the tokens.
abbrev pub IsSo : Tokens → ℕ → Result tree.Form Stop → Type 0
IsSo tokens line (Ok form) = Line tokens (form_of form) × (form_nesting (form_of form) ≤ 200)
IsSo tokens line (Err (stop.Fault fault)) = IsFault tokens line fault
IsSo tokens line (Err (stop.Memory error)) = Unit {0}

-- What is so is answered, unless memory runs out: the one form that the tokens spell, where it is nested at most 200 deep.
abbrev pub IsAnswered : Tokens → ℕ → Result tree.Form Stop → Type 0
IsAnswered tokens line (Ok form) = (f : Form) → Line tokens f → (form_of form ≡ f) × (form_nesting f ≤ 200)
IsAnswered tokens line (Err (stop.Fault fault)) = (f : Form) → Line tokens f → (fault ≡ record { line = line; code = TooDeep }) × (200 < form_nesting f)
IsAnswered tokens line (Err (stop.Memory error)) = Unit {0}

-- the tokens of a line spell at most one form
abbrev pub AtMostOneForm : Type 0
AtMostOneForm = (tokens : Tokens) (f g : Form) → Line tokens f → Line tokens g → f ≡ g
