-- The nesting of a form: that of the deepest expression in it. A target isn't an expression, its parts are.
use Rattle.std.specs.Prelude.{ℕ, max, List, [], ◌∷◌, Option, Some, None}
use Rattle.py_tree.specs.Syntax as x
use Rattle.py_tree.specs.Syntax.{Expression, Param, Kind}
use Rattle.py_tree.specs.Nesting.{nesting}
use Rattle.py_expr.specs.Forms as form
use Rattle.py_expr.specs.Forms.{Form, Head}
use Rattle.py_phrases.specs.Targets.{target_nesting}

abbrev pub maybe_nesting : Option Expression → ℕ
maybe_nesting None = 0
maybe_nesting (Some e) = nesting e

abbrev pub param_nesting : Param → ℕ
param_nesting p = max (maybe_nesting p.kind) (maybe_nesting p.default)

abbrev pub params_nesting : List Param → ℕ
params_nesting [] = 0
params_nesting (p ∷ ps) = max (param_nesting p) (params_nesting ps)

-- of a simple statement
abbrev pub kind_nesting : Kind → ℕ
kind_nesting (x.Return value) = maybe_nesting value
kind_nesting (x.Raise value) = maybe_nesting value
kind_nesting (x.Eval e) = nesting e
kind_nesting (x.Assign t e) = max (target_nesting t) (nesting e)
kind_nesting (x.Annotate t kind value) = max (target_nesting t) (max (nesting kind) (maybe_nesting value))
kind_nesting (x.Augment t op e) = max (target_nesting t) (nesting e)
kind_nesting _ = 0

abbrev pub head_nesting : Head → ℕ
head_nesting (form.If e) = nesting e
head_nesting (form.Elif e) = nesting e
head_nesting form.Else = 0
head_nesting (form.While e) = nesting e
head_nesting (form.For t e) = max (target_nesting t) (nesting e)
head_nesting form.Try = 0
head_nesting (form.Except matches bind) = maybe_nesting matches
head_nesting (form.Def name params result) = max (params_nesting params) (maybe_nesting result)
head_nesting (form.Class name base) = maybe_nesting base

abbrev pub form_nesting : Form → ℕ
form_nesting (form.Header h None) = head_nesting h
form_nesting (form.Header h (Some kind)) = max (head_nesting h) (kind_nesting kind)
form_nesting (form.Simple kind) = kind_nesting kind
