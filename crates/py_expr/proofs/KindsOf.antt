-- The simple statements that trees stand for, by their form.
use Rattle.std.proofs.Common.{◌≡◌, List, Option, sym, ap, ◌∙◌}
use Rattle.py_tree.specs.Syntax as x
use Rattle.py_tree.specs.Syntax.{Text, Kind, Statement}
use Rattle.py_tree.specs.Joined.{expression_of, maybe_of, target_of, kind_of, kind_step, branch_step, class_step, clause_step, function_step, statement_step}
use Rattle.py_tree.specs.declared.expression.Expr.{Expr}
use Rattle.py_tree.specs.declared.expression.Target.{Target}
use Rattle.py_tree.specs.declared.operator.BinaryOp.{BinaryOp}
use Rattle.py_tree.specs.declared.statement.Import.{Import}
use Rattle.py_tree.specs.declared.statement.StmtKind.{fold-roll-StmtKind}
use Rattle.py_tree.specs.declared.statement.StmtKind.TheOpen as S
use Rattle.py_tree.specs.declared.statement.StmtKind.TheVariants as variant
use Rattle.py_tree.specs.declared.statement.StmtKind as code

pub pass_is : kind_of code.Pass ≡ x.Pass
pass_is = ap kind_of (sym variant.rolls-Pass) ∙ fold-roll-StmtKind Kind x.Branch x.ClassDef x.Clause x.Function Statement kind_step branch_step class_step clause_step function_step statement_step S.Pass

pub break_is : kind_of code.Break ≡ x.Break
break_is = ap kind_of (sym variant.rolls-Break) ∙ fold-roll-StmtKind Kind x.Branch x.ClassDef x.Clause x.Function Statement kind_step branch_step class_step clause_step function_step statement_step S.Break

pub continue_is : kind_of code.Continue ≡ x.Continue
continue_is = ap kind_of (sym variant.rolls-Continue) ∙ fold-roll-StmtKind Kind x.Branch x.ClassDef x.Clause x.Function Statement kind_step branch_step class_step clause_step function_step statement_step S.Continue

pub return_is : (e : Option Expr) → kind_of (code.Return e) ≡ x.Return (maybe_of e)
return_is e = ap kind_of (sym (variant.rolls-Return e)) ∙ fold-roll-StmtKind Kind x.Branch x.ClassDef x.Clause x.Function Statement kind_step branch_step class_step clause_step function_step statement_step (S.Return e)

pub raise_is : (e : Option Expr) → kind_of (code.Raise e) ≡ x.Raise (maybe_of e)
raise_is e = ap kind_of (sym (variant.rolls-Raise e)) ∙ fold-roll-StmtKind Kind x.Branch x.ClassDef x.Clause x.Function Statement kind_step branch_step class_step clause_step function_step statement_step (S.Raise e)

pub import_is : (is : List Import) → kind_of (code.Import is) ≡ x.Imports is
import_is is = ap kind_of (sym (variant.rolls-Import is)) ∙ fold-roll-StmtKind Kind x.Branch x.ClassDef x.Clause x.Function Statement kind_step branch_step class_step clause_step function_step statement_step (S.Import is)

pub from_is : (n : Text) (is : List Import) → kind_of (code.From n is) ≡ x.From n is
from_is n is = ap kind_of (sym (variant.rolls-From n is)) ∙ fold-roll-StmtKind Kind x.Branch x.ClassDef x.Clause x.Function Statement kind_step branch_step class_step clause_step function_step statement_step (S.From n is)

pub assign_is : (t : Target) (e : Expr) → kind_of (code.Assign t e) ≡ x.Assign (target_of t) (expression_of e)
assign_is t e = ap kind_of (sym (variant.rolls-Assign t e)) ∙ fold-roll-StmtKind Kind x.Branch x.ClassDef x.Clause x.Function Statement kind_step branch_step class_step clause_step function_step statement_step (S.Assign t e)

pub annotate_is : (t : Target) (e : Expr) (v : Option Expr) → kind_of (code.Annotate t e v) ≡ x.Annotate (target_of t) (expression_of e) (maybe_of v)
annotate_is t e v = ap kind_of (sym (variant.rolls-Annotate t e v)) ∙ fold-roll-StmtKind Kind x.Branch x.ClassDef x.Clause x.Function Statement kind_step branch_step class_step clause_step function_step statement_step (S.Annotate t e v)

pub annotate_made : (t : Target) (e made : Expr) (v made_value : Option Expr) → made ≡ e → made_value ≡ v → kind_of (code.Annotate t made made_value) ≡ x.Annotate (target_of t) (expression_of e) (maybe_of v)
annotate_made t e made v made_value is value_is = rw (is, value_is) (annotate_is t e v)

pub augment_is : (t : Target) (op : BinaryOp) (e : Expr) → kind_of (code.Augment t op e) ≡ x.Augment (target_of t) op (expression_of e)
augment_is t op e = ap kind_of (sym (variant.rolls-Augment t op e)) ∙ fold-roll-StmtKind Kind x.Branch x.ClassDef x.Clause x.Function Statement kind_step branch_step class_step clause_step function_step statement_step (S.Augment t op e)
