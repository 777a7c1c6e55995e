-- What a call of the program's trees stands for, by its parts.
use Rattle.std.proofs.Common.{◌≡◌}
use Rattle.py_tree.specs.Syntax as x
use Rattle.py_tree.specs.Syntax.{Expression}
use Rattle.py_tree.specs.Joined.{expr_step, call_step, keyword_step, pair_step, expression_of, expressions_of, keywords_of}
use Rattle.py_tree.specs.declared.expression.Call.{Call, out-Call}
use Rattle.py_tree.specs.declared.expression.Expr.TheFolds.{fold_out-Call}
use Rattle.compile_plain.specs.Trees.{call_of}

pub call_is : (c : Call) → call_of c ≡ x.Call (expression_of (out-Call c).callee) (expressions_of (out-Call c).args) (keywords_of (out-Call c).keys)
call_is = fold_out-Call Expression Expression x.Keyword x.Pair expr_step call_step keyword_step pair_step
