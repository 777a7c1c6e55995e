-- So many parts of a tree are as many of what it stands for.
use Rattle.std.proofs.Common.{◌≡◌, List, [], ◌∷◌, length, suc, refl, ap}
use Rattle.py_tree.specs.Joined.{expressions_of, pairs_of}
use Rattle.py_tree.specs.declared.expression.Expr.{Expr}
use Rattle.py_tree.specs.declared.expression.Pair.{Pair}
use Rattle.compile_plain.specs.Expressions.{count, count_pairs}

pub count_is : (es : List Expr) → count (expressions_of es) ≡ length es
count_is [] = refl
count_is (e ∷ es) = ap suc (count_is es)

pub count_pairs_is : (ps : List Pair) → count_pairs (pairs_of ps) ≡ length ps
count_pairs_is [] = refl
count_pairs_is (p ∷ ps) = ap suc (count_pairs_is ps)
