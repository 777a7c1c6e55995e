-- The forms of a module with their indentations and lines, as plain data.
use Rattle.std.specs.Prelude.{ℕ, List, map}
use Rattle.py_expr.specs.Forms.{Form, form_of}
use Rattle.py_blocks.specs.declared.form_line.FormLine.{FormLine}

pub record Row : Type 0 where
  pub indent : ℕ
  pub line : ℕ
  pub form : Form

abbrev pub row_of : FormLine → Row
row_of f = record { indent = f.indent; line = f.line; form = form_of f.form }

abbrev pub rows_of : List FormLine → List Row
rows_of fs = map row_of fs
