-- What builtin functions and types give. Arguments that don't bind are not examined.
use Rattle.std.specs.Prelude.{ℕ, ℤ, pos, Bool, true, false, List, [], ◌∷◌, length, codes, Option, Some, None}
use Rattle.std.specs.Ordering.{int_eq}
use Rattle.py_tree.specs.Syntax.{Text}
use Rattle.py_tree.specs.declared.operator.CompareOp.{CompareOp}
use Rattle.py_tree.specs.declared.operator.CompareOp.TheVariants.{Lt, Gt}
use Rattle.py_values.specs.declared.builtin.Builtin.{Builtin}
use Rattle.py_values.specs.declared.builtin.Builtin.TheVariants as builtin
use Rattle.py_values.specs.declared.class_id.ClassId.{ClassId}
use Rattle.py_values.specs.declared.exception.ExcKind.TheVariants as kind
use Rattle.atom_ops.specs.Arithmetic.{as_int}
use Rattle.atom_ops.specs.Operands.{answer_of}
use Rattle.atom_ops.specs.Operands as o
use Rattle.atom_ops.specs.Operators as op
use Rattle.gradual_types.specs.Values as v
use Rattle.gradual_types.specs.Values.{Value}
use Rattle.py_meaning.specs.Acts.{Act, ◌>>=◌, ◌>>◌, give, pay, choose}
use Rattle.py_meaning.specs.Modules.{World}
use Rattle.py_meaning.specs.Classes.{is_below}
use Rattle.py_meaning.specs.Looks as seen
use Rattle.py_meaning.specs.Looks.{Seen, look, raise, type_error, or_type_error, make, print_out}
use Rattle.py_meaning.specs.Operands.{operand, answered, by_table, number, is_true, range_count}
use Rattle.py_meaning.specs.Comparisons.{ordered}
use Rattle.py_meaning.specs.TextForms.{say, then_say, repr, str}
use Rattle.py_meaning.specs.Iterables.{gather}

abbrev pub look_all : World → List Value → Act (List Seen)
look_all w [] = give []
look_all w (x ∷ xs) = do
  a ← look w x
  rest ← look_all w xs
  give (a ∷ rest)

-- a builtin of one argument, by the operator table
abbrev pub called_by_table : World → op.Callee → Value → Act Value
called_by_table w callee x = look w x >>= λ a. by_table w (op.Call callee (operand a ∷ []))

-- ---- print, str, repr, bool

abbrev pub after_space : World → List Value → Act Text
after_space w [] = say (codes "\n")
after_space w (x ∷ xs) = then_say (say (codes " ")) (then_say (str w 100 x) (after_space w xs))

-- the whole text, with one space between two arguments and a newline at the end
abbrev pub printed : World → List Value → Act Text
printed w [] = say (codes "\n")
printed w (x ∷ xs) = then_say (str w 100 x) (after_space w xs)

abbrev pub as_text : Act Text → Act Value
as_text act = act >>= λ text. give (v.Points text)

-- ---- len, range

abbrev pub count_as_int : World → ℕ → Act Value
count_as_int w count = answered w (answer_of o.Int (as_int (pos count)))

abbrev pub size : World → Seen → Act Value
size w (seen.Tuple vs) = count_as_int w (length vs)
size w (seen.Listed h n vs) = count_as_int w (length vs)
size w (seen.Mapped h n es) = count_as_int w (length es)
size w (seen.Range start stop step) = count_as_int w (range_count start stop step)
size w other = by_table w (op.Call op.Len (operand other ∷ []))

abbrev pub range_of : World → ℤ → ℤ → ℤ → Act Value
range_of w start stop step = choose (int_eq step (pos 0)) (raise w kind.ValueError) (give (v.Range start stop step))

-- of one int the stop; of two the start and the stop; of three the step besides
abbrev pub range_by : World → List (Option ℤ) → Act Value
range_by w (Some stop ∷ []) = range_of w (pos 0) stop (pos 1)
range_by w (Some start ∷ Some stop ∷ []) = range_of w start stop (pos 1)
range_by w (Some start ∷ Some stop ∷ Some step ∷ []) = range_of w start stop step
range_by w other = type_error w

abbrev pub numbers : List Seen → List (Option ℤ)
numbers [] = []
numbers (a ∷ as') = number a ∷ numbers as'

abbrev pub made_range : World → List Value → Act Value
made_range w args = look_all w args >>= λ as'. range_by w (numbers as')

-- ---- list, tuple, dict

abbrev pub copied_dict : World → Seen → Act Value
copied_dict w (seen.Mapped h n es) = pay (length es) >> make w (v.Mapped es)
copied_dict w other = type_error w

-- ---- min, max

-- the first of those that none is beyond
abbrev pub best : World → CompareOp → Value → List Value → Act Value
best w beyond x [] = give x
best w beyond x (y ∷ ys) = do
  is_beyond ← ordered w beyond 100 y x
  choose is_beyond (best w beyond y ys) (best w beyond x ys)

abbrev pub best_of : World → CompareOp → List Value → Act Value
best_of w beyond [] = raise w kind.ValueError
best_of w beyond (x ∷ xs) = best w beyond x xs

-- of one iterable, or of two arguments or more, which are looked at first
abbrev pub extreme : World → CompareOp → List Value → Act Value
extreme w beyond [] = type_error w
extreme w beyond (x ∷ []) = gather w x >>= best_of w beyond
extreme w beyond args = look_all w args >> best_of w beyond args

-- ---- isinstance

abbrev pub is_of_class : World → Seen → ClassId → Bool
is_of_class w (seen.Instance h n class slots) above = is_below w class above
is_of_class w other above = false

-- none where the builtin is no type
abbrev pub is_of_type : Seen → Builtin → Option Bool
is_of_type a builtin.Object = Some true
is_of_type (seen.Int n) builtin.Int = Some true
is_of_type (seen.Truth b) builtin.Int = Some true
is_of_type a builtin.Int = Some false
is_of_type (seen.Points text) builtin.Str = Some true
is_of_type a builtin.Str = Some false
is_of_type (seen.Truth b) builtin.Bool = Some true
is_of_type a builtin.Bool = Some false
is_of_type (seen.Listed h n vs) builtin.List = Some true
is_of_type a builtin.List = Some false
is_of_type (seen.Mapped h n es) builtin.Dict = Some true
is_of_type a builtin.Dict = Some false
is_of_type (seen.Tuple vs) builtin.Tuple = Some true
is_of_type a builtin.Tuple = Some false
is_of_type a other = None

abbrev pub is_of : World → Seen → Seen → Act Bool
is_of w a (seen.Class class) = give (is_of_class w a class)
is_of w a (seen.BuiltIn b) = or_type_error w (is_of_type a b)
is_of w a other = type_error w

-- they are examined in order, until one fits
abbrev pub is_of_some : World → Seen → List Value → Act Bool
is_of_some w a [] = give false
is_of_some w a (t ∷ ts) = do
  type ← look w t
  fits ← is_of w a type
  choose fits (give true) (is_of_some w a ts)

abbrev pub is_of_type_or_tuple : World → Seen → Seen → Act Bool
is_of_type_or_tuple w a (seen.Tuple ts) = is_of_some w a ts
is_of_type_or_tuple w a type = is_of w a type

abbrev pub instance_test : World → Value → Value → Act Value
instance_test w x t = do
  a ← look w x
  type ← look w t
  fits ← is_of_type_or_tuple w a type
  give (v.Truth fits)

-- ---- all of them

-- with these arguments, none of them by keyword
abbrev pub builtin_result : World → Builtin → List Value → Act Value
builtin_result w builtin.Print args = printed w args >>= λ text. print_out w text >> give v.Nil
builtin_result w builtin.Len (x ∷ []) = look w x >>= size w
builtin_result w builtin.Range (x ∷ []) = made_range w (x ∷ [])
builtin_result w builtin.Range (x ∷ y ∷ []) = made_range w (x ∷ y ∷ [])
builtin_result w builtin.Range (x ∷ y ∷ z ∷ []) = made_range w (x ∷ y ∷ z ∷ [])
builtin_result w builtin.Str [] = give (v.Points [])
builtin_result w builtin.Str (x ∷ []) = as_text (str w 100 x)
builtin_result w builtin.Repr (x ∷ []) = as_text (repr w 100 x)
builtin_result w builtin.Bool [] = give (v.Truth false)
builtin_result w builtin.Bool (x ∷ []) = look w x >>= λ a. give (v.Truth (is_true a))
builtin_result w builtin.List [] = make w (v.Listed [])
builtin_result w builtin.List (x ∷ []) = gather w x >>= λ vs. make w (v.Listed vs)
builtin_result w builtin.Tuple [] = give (v.Tuple v.end_of_values)
builtin_result w builtin.Tuple (x ∷ []) = gather w x >>= λ vs. give (v.Tuple (v.values vs))
builtin_result w builtin.Dict [] = make w (v.Mapped [])
builtin_result w builtin.Dict (x ∷ []) = look w x >>= copied_dict w
builtin_result w builtin.Int [] = give (v.Int (pos 0))
builtin_result w builtin.Int (x ∷ []) = called_by_table w op.ToInt x
builtin_result w builtin.Abs (x ∷ []) = called_by_table w op.Abs x
builtin_result w builtin.Ord (x ∷ []) = called_by_table w op.Ord x
builtin_result w builtin.Chr (x ∷ []) = called_by_table w op.Chr x
builtin_result w builtin.Min args = extreme w Lt args
builtin_result w builtin.Max args = extreme w Gt args
builtin_result w builtin.IsInstance (x ∷ t ∷ []) = instance_test w x t
builtin_result w other args = type_error w
