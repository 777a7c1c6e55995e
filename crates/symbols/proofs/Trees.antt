-- What a function and a class of the tree stand for, by their parts.
use Rattle.std.proofs.Common.{◌≡◌, map}
use Rattle.py_tree.specs.Syntax as x
use Rattle.py_tree.specs.Joined.{class_of, function_of, maybe_of, param_of, statements_of, kind_step, branch_step, class_step, clause_step, function_step, statement_step}
use Rattle.py_tree.specs.declared.statement.Function.{Function, out-Function}
use Rattle.py_tree.specs.declared.statement.ClassDef.{ClassDef, out-ClassDef}
use Rattle.py_tree.specs.declared.statement.StmtKind.TheFolds.{fold_out-Function, fold_out-ClassDef}

pub function_is : (f : Function) → function_of f ≡ x.Defined (out-Function f).name (map param_of (out-Function f).params) (maybe_of (out-Function f).result) (statements_of (out-Function f).body)
function_is = fold_out-Function x.Kind x.Branch x.ClassDef x.Clause x.Function x.Statement kind_step branch_step class_step clause_step function_step statement_step

pub class_is : (c : ClassDef) → class_of c ≡ x.Classed (out-ClassDef c).name (maybe_of (out-ClassDef c).base) (statements_of (out-ClassDef c).body)
class_is = fold_out-ClassDef x.Kind x.Branch x.ClassDef x.Clause x.Function x.Statement kind_step branch_step class_step clause_step function_step statement_step
