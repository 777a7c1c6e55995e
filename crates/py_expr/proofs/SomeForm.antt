-- Each line has a form, none, or one that is too deep.
use Rattle.std.proofs.Common.{◌≡◌, ℕ, Bool, true, false, Result, Ok, Err, inl, inr, refl}
use Rattle.std.specs.Prelude.{nat_le}
use Rattle.std.proofs.lemmas.Bool.{leb-true, leb-false}
use Rattle.py_tree.specs.declared.fault.Fault.{Fault}
use Rattle.py_phrases.specs.Grammar.{Tokens}
use Rattle.py_expr.specs.Forms.{Form}
use Rattle.py_expr.specs.Depth.{form_nesting}
use Rattle.py_expr.specs.EveryLine.{EveryLine, Reads}
use Rattle.py_expr.specs.Lines.{Line}

-- a form is shallow or too deep
no_form : (tokens : Tokens) (line : ℕ) → ((r : Result Form Fault) → Reads tokens line r → ⊥) → (form : Form) → Line tokens form → ⊥
no_form tokens line none form spelled = by (nat_le (form_nesting form) 200) refl where
  by : (b : Bool) → nat_le (form_nesting form) 200 ≡ b → ⊥
  by true h = none (Ok form) (spelled, leb-true _ _ h)
  by false h = none (Err _) (inr (refl, record { form = form; spelled = spelled; deep = leb-false _ _ h }))

pub some_form : EveryLine
some_form tokens line none = none (Err _) (inl (refl, no_form tokens line none))
