-- Statements of the tree one by one.
use Rattle.std.proofs.Common.{◌≡◌, List, [], ◌∷◌, refl, ap}
use Rattle.py_tree.specs.Syntax as x
use Rattle.py_tree.specs.Syntax.{Kind, Statement}
use Rattle.py_tree.specs.Joined.{statements, statement_of, kind_of, kind_step, branch_step, class_step, clause_step, function_step, statement_step}
use Rattle.py_tree.specs.declared.statement.Stmt.{Stmt}
use Rattle.py_tree.specs.declared.statement.StmtKind.TheFolds.{fold_out-Stmt}
use Rattle.module_load.specs.Bodies.{listed}

pub statement_is : (s : Stmt) → statement_of s ≡ x.On s.line (kind_of s.kind)
statement_is s = fold_out-Stmt Kind x.Branch x.ClassDef x.Clause x.Function Statement kind_step branch_step class_step clause_step function_step statement_step s

pub listed_is : (ss : List Statement) → listed (statements ss) ≡ ss
listed_is [] = refl
listed_is (s ∷ ss) = ap (λ (rest : List Statement). s ∷ rest) (listed_is ss)
