-- Each line has a form, has none, or has one that is too deep. Whether tokens spell a form isn't decided here, so existence is said
-- by double negation.
use Rattle.std.specs.Prelude.{◌≤◌, ℕ, Result, Ok, Err}
use Rattle.py_tree.specs.declared.fault.Fault.{Fault}
use Rattle.py_lexer.specs.EveryText.{HasSome}
use Rattle.py_phrases.specs.Grammar.{Tokens}
use Rattle.py_expr.specs.Forms.{Form}
use Rattle.py_expr.specs.Depth.{form_nesting}
use Rattle.py_expr.specs.LineAnswers.{IsFault}
use Rattle.py_expr.specs.Lines.{Line}

-- the form of the line with that number, or its fault
abbrev pub Reads : Tokens → ℕ → Result Form Fault → Type 0
Reads tokens line (Ok form) = Line tokens form × (form_nesting form ≤ 200)
Reads tokens line (Err fault) = IsFault tokens line fault

abbrev pub EveryLine : Type 0
EveryLine = (tokens : Tokens) (line : ℕ) → HasSome (Reads tokens line)
