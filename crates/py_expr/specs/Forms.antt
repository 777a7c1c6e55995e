-- What a logical line spells, as plain data: the head of a block with the simple statement that follows it on its line, or a
-- simple statement.
use Rattle.std.specs.Prelude.{List, map, Option, Some, None}
use Rattle.py_tree.specs.Syntax.{Text, Expression, Param, Target, Kind}
use Rattle.py_tree.specs.Joined.{expression_of, maybe_of, param_of, target_of, kind_of}
use Rattle.py_tree.specs.declared.statement.StmtKind.{StmtKind}
use Rattle.py_tree.specs.declared.expression.Param as tree_param
use Rattle.py_expr.specs.declared.form.Head as head
use Rattle.py_expr.specs.declared.form.Head.TheVariants as a_head
use Rattle.py_expr.specs.declared.form.Form as form
use Rattle.py_expr.specs.declared.form.Form.TheVariants as a_form

pub data Head : Type 0 where
  If : Expression → Head  -- if E:
  Elif : Expression → Head  -- elif E:
  Else : Head  -- else:
  While : Expression → Head  -- while E:
  For : Target → Expression → Head  -- for T in E:
  Try : Head  -- try:
  Except : Option Expression → Option Text → Head  -- except E as NAME:
  Def : Text → List Param → Option Expression → Head  -- def NAME(NAME: E = E, ..) -> E:
  Class : Text → Option Expression → Head  -- class NAME(E):

pub data Form : Type 0 where
  Header : Head → Option Kind → Form
  Simple : Kind → Form

-- from the forms of the program

abbrev pub params_of : List tree_param.Param → List Param
params_of ps = map param_of ps

abbrev pub head_of : head.Head → Head
head_of (a_head.If e) = If (expression_of e)
head_of (a_head.Elif e) = Elif (expression_of e)
head_of a_head.Else = Else
head_of (a_head.While e) = While (expression_of e)
head_of (a_head.For t e) = For (target_of t) (expression_of e)
head_of a_head.Try = Try
head_of (a_head.Except matches bind) = Except (maybe_of matches) bind
head_of (a_head.Def name params result) = Def name (params_of params) (maybe_of result)
head_of (a_head.Class name base) = Class name (maybe_of base)

abbrev pub maybe_kind_of : Option StmtKind → Option Kind
maybe_kind_of None = None
maybe_kind_of (Some kind) = Some (kind_of kind)

abbrev pub form_of : form.Form → Form
form_of (a_form.Header h kind) = Header (head_of h) (maybe_kind_of kind)
form_of (a_form.Simple kind) = Simple (kind_of kind)
