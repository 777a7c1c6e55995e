-- That no integer literal in rows of forms is above the greatest `int`.
use Rattle.std.specs.Prelude.{Bool}
use Rattle.std.specs.List.{list_all}
use Rattle.py_expr.specs.Literals.{form_fits}
use Rattle.py_blocks.specs.Blocks.{Rows}

abbrev pub forms_fit : Rows → Bool
forms_fit rows = list_all (λ t. form_fits t.form) rows
