-- What steps meet is met by builtin functions and types.
use Rattle.std.specs.Prelude.{ℕ, ℤ, pos, true, false, List, [], ◌∷◌, length, codes, Option, Some}
use Rattle.std.specs.Ordering.{int_eq}
use Rattle.py_tree.specs.Syntax.{Text}
use Rattle.py_tree.specs.declared.operator.CompareOp.{CompareOp}
use Rattle.py_tree.specs.declared.operator.CompareOp.TheVariants.{Lt, Gt}
use Rattle.py_values.specs.declared.builtin.Builtin.{Builtin}
use Rattle.py_values.specs.declared.builtin.Builtin.TheVariants as builtin
use Rattle.py_values.specs.declared.exception.ExcKind.TheVariants as kind
use Rattle.atom_ops.specs.Arithmetic.{as_int}
use Rattle.atom_ops.specs.Operands.{answer_of}
use Rattle.atom_ops.specs.Operands as o
use Rattle.atom_ops.specs.Operators as op
use Rattle.gradual_types.specs.Values as v
use Rattle.gradual_types.specs.Values.{Value}
use Rattle.py_meaning.specs.Acts.{Act}
use Rattle.py_meaning.specs.Modules.{World}
use Rattle.py_meaning.specs.Looks as seen
use Rattle.py_meaning.specs.Looks.{Seen}
use Rattle.py_meaning.specs.Operands.{operand, range_count}
use Rattle.py_meaning.specs.Builtins.{look_all, called_by_table, after_space, printed, as_text, count_as_int, size, range_of, range_by, numbers, made_range, copied_dict, best, best_of, extreme, is_of_type, is_of, is_of_some, is_of_type_or_tuple, instance_test, builtin_result}
use Rattle.py_meaning.proofs.Steps.{Steps, Kept, seq, chosen, raises, errs, or_raises, looks}
use Rattle.py_meaning.proofs.StepsOfOperators.{answers, tables, orders}
use Rattle.py_meaning.proofs.StepsOfTexts.{says, says_then, strs, reprs}
use Rattle.py_meaning.proofs.StepsOfLoops.{gathers}

module _ {w : World} (q : Steps w) where
  pub looks_all : (xs : List Value) → Kept q (look_all w xs)
  looks_all [] = q.gives []
  looks_all (x ∷ xs) = q.bind (looks q x) (λ a. q.bind (looks_all xs) (λ rest. q.gives _))

  pub rows : (callee : op.Callee) (x : Value) → Kept q (called_by_table w callee x)
  rows callee x = q.bind (looks q x) (λ a. tables q (op.Call callee (operand a ∷ [])))

  -- ---- print

  pub after_spaces : (xs : List Value) → Kept q (after_space w xs)
  after_spaces [] = says q (codes "\n")
  after_spaces (x ∷ xs) = says_then q (says q (codes " ")) (says_then q (strs q 100 x) (after_spaces xs))

  pub lines : (xs : List Value) → Kept q (printed w xs)
  lines [] = says q (codes "\n")
  lines (x ∷ xs) = says_then q (strs q 100 x) (after_spaces xs)

  pub texts : {act : Act Text} → Kept q act → Kept q (as_text act)
  texts h = q.bind h (λ text. q.gives _)

  -- ---- len, range, dict

  pub counts_as_int : (count : ℕ) → Kept q (count_as_int w count)
  counts_as_int count = answers q (answer_of o.Int (as_int (pos count)))

  pub sizes : (a : Seen) → Kept q (size w a)
  sizes (seen.Tuple vs) = counts_as_int (length vs)
  sizes (seen.Listed h n vs) = counts_as_int (length vs)
  sizes (seen.Mapped h n es) = counts_as_int (length es)
  sizes (seen.Range start stop step) = counts_as_int (range_count start stop step)
  sizes other = tables q (op.Call op.Len (operand other ∷ []))

  pub ranges : (start stop step : ℤ) → Kept q (range_of w start stop step)
  ranges start stop step = chosen q (int_eq step (pos 0)) (raises q kind.ValueError) (q.gives (v.Range start stop step))

  pub ranges_by : (ns : List (Option ℤ)) → Kept q (range_by w ns)
  ranges_by (Some stop ∷ []) = ranges (pos 0) stop (pos 1)
  ranges_by (Some start ∷ Some stop ∷ []) = ranges start stop (pos 1)
  ranges_by (Some start ∷ Some stop ∷ Some step ∷ []) = ranges start stop step
  ranges_by other = errs q

  pub makes_range : (args : List Value) → Kept q (made_range w args)
  makes_range args = q.bind (looks_all args) (λ as'. ranges_by (numbers as'))

  pub copies : (a : Seen) → Kept q (copied_dict w a)
  copies (seen.Mapped h n es) = seq q (q.pays _) (q.makes (v.Mapped es))
  copies other = errs q

  -- ---- min, max

  pub bests : (beyond : CompareOp) (x : Value) (ys : List Value) → Kept q (best w beyond x ys)
  bests beyond x [] = q.gives x
  bests beyond x (y ∷ ys) = q.bind (orders q beyond 100 y x) (λ b. chosen q b (bests beyond y ys) (bests beyond x ys))

  pub bests_of : (beyond : CompareOp) (xs : List Value) → Kept q (best_of w beyond xs)
  bests_of beyond [] = raises q kind.ValueError
  bests_of beyond (x ∷ xs) = bests beyond x xs

  pub extremes : (beyond : CompareOp) (args : List Value) → Kept q (extreme w beyond args)
  extremes beyond [] = errs q
  extremes beyond (x ∷ []) = q.bind (gathers q x) (bests_of beyond)
  extremes beyond (x ∷ y ∷ args) = seq q (looks_all (x ∷ y ∷ args)) (bests_of beyond (x ∷ y ∷ args))

  -- ---- isinstance

  pub tests_type : (a type : Seen) → Kept q (is_of w a type)
  tests_type a (seen.Class class) = q.gives _
  tests_type a (seen.BuiltIn b) = or_raises q kind.TypeError (is_of_type a b)
  tests_type a other = errs q

  pub tests_some : (a : Seen) (ts : List Value) → Kept q (is_of_some w a ts)
  tests_some a [] = q.gives false
  tests_some a (t ∷ ts) = q.bind (looks q t) (λ type. q.bind (tests_type a type) (λ b. chosen q b (q.gives true) (tests_some a ts)))

  pub tests_types : (a type : Seen) → Kept q (is_of_type_or_tuple w a type)
  tests_types a (seen.Tuple ts) = tests_some a ts
  tests_types a type = tests_type a type

  pub tests_instance : (x t : Value) → Kept q (instance_test w x t)
  tests_instance x t = q.bind (looks q x) (λ a. q.bind (looks q t) (λ type. q.bind (tests_types a type) (λ b. q.gives _)))

  -- ---- all of them

  pub results : (b : Builtin) (args : List Value) → Kept q (builtin_result w b args)
  results builtin.Print args = q.bind (lines args) (λ text. seq q (q.prints text) (q.gives v.Nil))
  results builtin.Len (x ∷ []) = q.bind (looks q x) sizes
  results builtin.Range (x ∷ []) = makes_range (x ∷ [])
  results builtin.Range (x ∷ y ∷ []) = makes_range (x ∷ y ∷ [])
  results builtin.Range (x ∷ y ∷ z ∷ []) = makes_range (x ∷ y ∷ z ∷ [])
  results builtin.Str [] = q.gives _
  results builtin.Str (x ∷ []) = texts (strs q 100 x)
  results builtin.Repr (x ∷ []) = texts (reprs q 100 x)
  results builtin.Bool [] = q.gives _
  results builtin.Bool (x ∷ []) = q.bind (looks q x) (λ a. q.gives _)
  results builtin.List [] = q.makes (v.Listed [])
  results builtin.List (x ∷ []) = q.bind (gathers q x) (λ vs. q.makes (v.Listed vs))
  results builtin.Tuple [] = q.gives _
  results builtin.Tuple (x ∷ []) = q.bind (gathers q x) (λ vs. q.gives _)
  results builtin.Dict [] = q.makes (v.Mapped [])
  results builtin.Dict (x ∷ []) = q.bind (looks q x) copies
  results builtin.Int [] = q.gives _
  results builtin.Int (x ∷ []) = rows op.ToInt x
  results builtin.Abs (x ∷ []) = rows op.Abs x
  results builtin.Ord (x ∷ []) = rows op.Ord x
  results builtin.Chr (x ∷ []) = rows op.Chr x
  results builtin.Min args = extremes Lt args
  results builtin.Max args = extremes Gt args
  results builtin.IsInstance (x ∷ t ∷ []) = tests_instance x t
  results _ _ = errs q
