-- `==`, order and `in`. Walks into containers go at most 100 deep.
use Rattle.std.specs.Prelude.{ℕ, zero, suc, ℤ, Bool, true, false, not, ◌&&◌, ◌==◌, if◌then◌else◌, List, [], ◌∷◌, length, Option, Some, None, is_some}
use Rattle.std.specs.List.{list_any, range_with_len}
use Rattle.std.specs.Ordering.{int_eq, nat_cmp}
use Rattle.std.specs.Str.{bytes_eq}
use Rattle.py_tree.specs.declared.operator.CompareOp.{CompareOp}
use Rattle.py_tree.specs.declared.operator.CompareOp.TheVariants.{Eq, Ne, In, NotIn}
use Rattle.py_values.specs.Builtins.{name_of}
use Rattle.py_values.specs.declared.builtin.Builtin.{Builtin}
use Rattle.py_values.specs.declared.builtin.Builtin.TheVariants.{DictCopy}
use Rattle.py_values.specs.declared.exception.ExcKind.TheVariants as kind
use Rattle.key_map.specs.Entries.{Entry, find_entry}
use Rattle.atom_ops.specs.Operators.{Compare, holds}
use Rattle.gradual_types.specs.Values as v
use Rattle.gradual_types.specs.Values.{Value}
use Rattle.py_meaning.specs.Acts.{Act, ◌>>=◌, ◌>>◌, give, tick, choose}
use Rattle.py_meaning.specs.Modules.{World}
use Rattle.py_meaning.specs.Classes.{same_class}
use Rattle.py_meaning.specs.Looks as seen
use Rattle.py_meaning.specs.Looks.{Seen, look, raise, same_home}
use Rattle.py_meaning.specs.Operands.{operand, number, by_table, range_count, range_item}
use Rattle.py_meaning.specs.PaidKeys.{key_of}

abbrev pub is_truth : Value → Bool
is_truth (v.Truth b) = b
is_truth (v.PrimBool b) = b
is_truth other = false

-- by the operator table
abbrev pub tabled : World → CompareOp → Seen → Seen → Act Bool
tabled w op a b = by_table w (Compare op (operand a) (operand b)) >>= λ answer. give (is_truth answer)

-- what compares two values one level deeper, where a level is left
abbrev pub Deeper : Type 0
Deeper = Option (Value → Value → Act Bool)

-- ---- identity

abbrev pub is_dict_copy : Builtin → Bool
is_dict_copy DictCopy = true
is_dict_copy b = false

-- their names tell builtins apart, but for `copy` of lists and of dictionaries
abbrev pub same_builtin : Builtin → Builtin → Bool
same_builtin a b = bytes_eq (name_of a) (name_of b) && (if is_dict_copy a then is_dict_copy b else not (is_dict_copy b))

-- the same object, class, function, module or builtin
abbrev pub identical : Seen → Seen → Bool
identical (seen.Instance h n c ss) (seen.Instance i m d ts) = same_home h i && n == m
identical (seen.Listed h n xs) (seen.Listed i m ys) = same_home h i && n == m
identical (seen.Mapped h n xs) (seen.Mapped i m ys) = same_home h i && n == m
identical (seen.Class c) (seen.Class d) = same_class c d
identical (seen.Function m n) (seen.Function p q) = m == p && n == q
identical (seen.Module m) (seen.Module n) = m == n
identical (seen.BuiltIn a) (seen.BuiltIn b) = same_builtin a b
identical a b = false

-- ---- `==`

-- the same numbers in the same order
abbrev pub same_ranges : ℕ → ℤ → ℤ → ℕ → ℤ → ℤ → Bool
same_ranges zero start step zero start' step' = true
same_ranges (suc zero) start step (suc zero) start' step' = int_eq start start'
same_ranges n start step n' start' step' = n == n' && (int_eq start start' && int_eq step step')

-- texts as texts, and objects by identity
abbrev pub receivers_equal : World → Seen → Seen → Act Bool
receivers_equal w (seen.Points a) (seen.Points b) = tabled w Eq (seen.Points a) (seen.Points b)
receivers_equal w a b = give (identical a b)

abbrev pub bound_equal : World → Value → Value → Value → Value → Act Bool
bound_equal w receiver method receiver' method' = do
  f ← look w method
  g ← look w method'
  choose (identical f g) (look w receiver >>= λ a. look w receiver' >>= λ b. receivers_equal w a b) (give false)

abbrev pub pairs_equal : (Value → Value → Act Bool) → List Value → List Value → Act Bool
pairs_equal equal (x ∷ xs) (y ∷ ys) = do
  tick
  same ← equal x y
  choose same (pairs_equal equal xs ys) (give false)
pairs_equal equal xs ys = give true

-- what has not the same length is unequal at once
abbrev pub lists_equal : World → Deeper → List Value → List Value → Act Bool
lists_equal w None xs ys = raise w kind.RecursionError
lists_equal w (Some equal) xs ys = choose (length xs == length ys) (pairs_equal equal xs ys) (give false)

abbrev pub values_equal : (Value → Value → Act Bool) → Value → Option Value → Act Bool
values_equal equal x None = give false
values_equal equal x (Some y) = tick >> equal x y

-- each key of the first is looked up in the second
abbrev pub entries_equal : World → (Value → Value → Act Bool) → List (Entry Value Value) → List (Entry Value Value) → Act Bool
entries_equal w equal [] es = give true
entries_equal w equal (d ∷ ds) es = do
  found ← key_of w d.shown
  same ← values_equal equal d.value (find_entry found.0 es)
  choose same (entries_equal w equal ds es) (give false)

abbrev pub dicts_equal : World → Deeper → List (Entry Value Value) → List (Entry Value Value) → Act Bool
dicts_equal w None ds es = raise w kind.RecursionError
dicts_equal w (Some equal) ds es = choose (length ds == length es) (entries_equal w equal ds es) (give false)

abbrev pub seen_equal : World → Deeper → Seen → Seen → Act Bool
seen_equal w deeper (seen.Tuple xs) (seen.Tuple ys) = lists_equal w deeper xs ys
seen_equal w deeper (seen.Listed h n xs) (seen.Listed i m ys) = lists_equal w deeper xs ys
seen_equal w deeper (seen.Mapped h n ds) (seen.Mapped i m es) = dicts_equal w deeper ds es
seen_equal w deeper (seen.Range a b s) (seen.Range c d t) = give (same_ranges (range_count a b s) a s (range_count c d t) c t)
seen_equal w deeper (seen.Bound r f) (seen.Bound q g) = bound_equal w r f q g
seen_equal w deeper a b = choose (identical a b) (give true) (tabled w Eq a b)

-- with so many levels of containers
abbrev pub equal : World → ℕ → Value → Value → Act Bool
equal w zero x y = look w x >>= λ a. look w y >>= λ b. seen_equal w None a b
equal w (suc levels) x y = look w x >>= λ a. look w y >>= λ b. seen_equal w (Some (equal w levels)) a b

-- ---- order

-- the first unequal pair decides, and else the lengths
abbrev pub pairs_ordered : CompareOp → (Value → Value → Act Bool) → (Value → Value → Act Bool) → List Value → List Value → Act Bool
pairs_ordered op equal ordered (x ∷ xs) (y ∷ ys) = do
  tick
  same ← equal x y
  choose same (pairs_ordered op equal ordered xs ys) (ordered x y)
pairs_ordered op equal ordered xs ys = give (holds op (nat_cmp (length xs) (length ys)))

abbrev pub lists_ordered : World → CompareOp → Deeper → Deeper → List Value → List Value → Act Bool
lists_ordered w op (Some equal) (Some ordered) xs ys = pairs_ordered op equal ordered xs ys
lists_ordered w op equal ordered xs ys = raise w kind.RecursionError

abbrev pub seen_ordered : World → CompareOp → Deeper → Deeper → Seen → Seen → Act Bool
seen_ordered w op equal ordered (seen.Tuple xs) (seen.Tuple ys) = lists_ordered w op equal ordered xs ys
seen_ordered w op equal ordered (seen.Listed h n xs) (seen.Listed i m ys) = lists_ordered w op equal ordered xs ys
seen_ordered w op equal ordered a b = tabled w op a b

abbrev pub ordered : World → CompareOp → ℕ → Value → Value → Act Bool
ordered w op zero x y = look w x >>= λ a. look w y >>= λ b. seen_ordered w op None None a b
ordered w op (suc levels) x y = look w x >>= λ a. look w y >>= λ b. seen_ordered w op (Some (equal w levels)) (Some (ordered w op levels)) a b

-- ---- `in`

abbrev pub is_among : World → Value → List Value → Act Bool
is_among w x [] = give false
is_among w x (y ∷ ys) = do
  tick
  same ← equal w 100 x y
  choose same (give true) (is_among w x ys)

abbrev pub in_range : ℤ → ℤ → ℤ → Option ℤ → Bool
in_range start stop step None = false
in_range start stop step (Some n) = list_any (λ i. int_eq n (range_item start step i)) (range_with_len 0 (range_count start stop step))

abbrev pub contained : World → Value → Seen → Seen → Act Bool
contained w x a (seen.Tuple ys) = is_among w x ys
contained w x a (seen.Listed h n ys) = is_among w x ys
contained w x a (seen.Mapped h n es) = key_of w x >>= λ found. give (is_some (find_entry found.0 es))
contained w x a (seen.Range start stop step) = give (in_range start stop step (number a))
contained w x a b = tabled w In a b

abbrev pub contains : World → Value → Value → Act Bool
contains w x y = do
  a ← look w x
  b ← look w y
  contained w x a b

-- ---- `a op b`

abbrev pub flipped : Act Bool → Act Bool
flipped act = act >>= λ b. give (not b)

abbrev pub compared : World → CompareOp → Value → Value → Act Bool
compared w Eq x y = equal w 100 x y
compared w Ne x y = flipped (equal w 100 x y)
compared w In x y = contains w x y
compared w NotIn x y = flipped (contains w x y)
compared w op x y = ordered w op 100 x y

-- of two int64s a cbool, and else a bool
abbrev pub answer_of : Value → Value → Bool → Value
answer_of (v.Prim64 a) (v.Prim64 b) answer = v.PrimBool answer
answer_of x y answer = v.Truth answer

abbrev pub comparison : World → CompareOp → Value → Value → Act Value
comparison w op x y = compared w op x y >>= λ answer. give (answer_of x y answer)
