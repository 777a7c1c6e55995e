-- The rows of the operator table that are told apart by their operator or their operand.
use Rattle.std.proofs.Common.{◌≡◌, ◌≢◌, min, not, refl, ap, length, ℤ, pos, negsuc, zero, suc, neg_ℤ, ◌-ℤ◌, arith}
use Rattle.std.proofs.lemmas.Int.{ints}
use Rattle.std.specs.Ordering.{is_eq, is_ne}
use Rattle.std.specs.declared.cmp.Ordering.{Ordering}
use Rattle.std.specs.declared.cmp.Ordering.TheVariants.{Less, Equal, Greater}
use Rattle.py_tree.specs.Syntax.{Text}
use Rattle.py_tree.specs.declared.operator.UnaryOp.TheVariants.{Minus}
use Rattle.py_tree.specs.declared.operator.BinaryOp.TheVariants.{Sub}
use Rattle.py_tree.specs.declared.operator.CompareOp.{CompareOp}
use Rattle.py_tree.specs.declared.operator.CompareOp.TheVariants.{Eq, Ne, Lt, Le, Gt, Ge, In, NotIn}
use Rattle.atom_ops.specs.Arithmetic.{primitive_result, wrapped}
use Rattle.atom_ops.specs.Texts.{order_of}
use Rattle.atom_ops.specs.Operands.{Truth, Points, Prim64, at_cost, free, answer_of}
use Rattle.atom_ops.specs.Operators.{Unary, Compare, holds, row}

negative : (a : ℤ) → neg_ℤ a ≡ pos 0 -ℤ a
negative (pos zero) = refl
negative (pos (suc n)) = omega (arith, ints)
negative (negsuc n) = omega (arith, ints)

pub prim_neg : (a : ℤ) → row (Unary Minus (Prim64 a)) ≡ free (answer_of Prim64 (primitive_result Sub (pos 0) a))
prim_neg a = ap (λ n. free (answer_of Prim64 (wrapped n))) (negative a)

unequal : (order : Ordering) → not (is_eq order) ≡ is_ne order
unequal Less = refl
unequal Equal = refl
unequal Greater = refl

pub compare_text : (op : CompareOp) (a b : Text) → op ≢ In → op ≢ NotIn → row (Compare op (Points a) (Points b)) ≡ at_cost (min (length a) (length b)) (Truth (holds op (order_of a b)))
compare_text Eq a b h k = refl
compare_text Ne a b h k = ap (λ z. at_cost (min (length a) (length b)) (Truth z)) (unequal (order_of a b))
compare_text Lt a b h k = refl
compare_text Le a b h k = refl
compare_text Gt a b h k = refl
compare_text Ge a b h k = refl
compare_text In a b h k = absurd (h refl)
compare_text NotIn a b h k = absurd (k refl)
