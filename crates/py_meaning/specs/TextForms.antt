-- `repr` and `str`. Each code point is paid as it appears; walks into containers go at most 100 deep.
use Rattle.std.specs.Prelude.{ℕ, zero, suc, ℤ, pos, Bool, true, false, if◌then◌else◌, List, [], ◌∷◌, ◌++◌, length, codes, Option, Some, None}
use Rattle.std.specs.Fmt.{signed_decimal}
use Rattle.std.specs.Ordering.{int_eq}
use Rattle.py_tree.specs.Syntax.{Text}
use Rattle.py_values.specs.Builtins.{name_of}
use Rattle.py_values.specs.declared.class_id.ClassId.{ClassId}
use Rattle.py_values.specs.declared.class_id.ClassId.TheVariants as id
use Rattle.py_values.specs.declared.exception.ExcKind.TheVariants as kind
use Rattle.key_map.specs.Entries.{Entry}
use Rattle.atom_ops.specs.Operators.{written}
use Rattle.gradual_types.specs.Values as v
use Rattle.gradual_types.specs.Values.{Value}
use Rattle.py_meaning.specs.Acts.{Act, ◌>>=◌, ◌>>◌, give, pay, choose}
use Rattle.py_meaning.specs.Modules.{World, module_name, function_name}
use Rattle.py_meaning.specs.Classes.{class_name, is_below, is_exception}
use Rattle.py_meaning.specs.Looks as seen
use Rattle.py_meaning.specs.Looks.{Seen, look, raise}
use Rattle.py_meaning.specs.Operands.{operand}

abbrev pub say : Text → Act Text
say text = pay (length text) >> give text

-- the text of the one, and behind it that of the other
abbrev pub then_say : Act Text → Act Text → Act Text
then_say first next = do
  a ← first
  b ← next
  give (a ++ b)

abbrev pub between : Text → Act Text → Text → Act Text
between a act b = then_say (say a) (then_say act (say b))

-- ---- items

abbrev pub after_comma : {A : Type 0} → (A → Act Text) → List A → Act Text
after_comma text [] = give []
after_comma text (x ∷ xs) = then_say (say (codes ", ")) (then_say (text x) (after_comma text xs))

abbrev pub items_text : {A : Type 0} → (A → Act Text) → List A → Act Text
items_text text [] = give []
items_text text (x ∷ xs) = then_say (text x) (after_comma text xs)

abbrev pub entry_text : (Value → Act Text) → Entry Value Value → Act Text
entry_text text e = then_say (text e.shown) (then_say (say (codes ": ")) (text e.value))

-- a tuple of one item has a comma
abbrev pub tuple_end : List Value → Text
tuple_end (x ∷ []) = codes ",)"
tuple_end xs = codes ")"

-- what writes a value one level deeper, where a level is left
abbrev pub Writer : Type 0
Writer = Option (Value → Act Text)

abbrev pub nested : World → Writer → ((Value → Act Text) → Act Text) → Act Text
nested w None act = raise w kind.RecursionError
nested w (Some text) act = act text

-- ---- values without parts

abbrev pub in_angles : Text → Text → Text
in_angles word name = codes "<" ++ word ++ name ++ codes ">"

abbrev pub range_text : ℤ → ℤ → ℤ → Text
range_text start stop step =
    codes "range(" ++ signed_decimal start ++ codes ", " ++ signed_decimal stop
    ++ (if int_eq step (pos 1) then [] else codes ", " ++ signed_decimal step) ++ codes ")"

abbrev pub method_name : World → Value → Text
method_name w (v.Function m n) = function_name w m n
method_name w (v.BuiltIn b) = name_of b
method_name w other = []

abbrev pub atom_text : Seen → Text
atom_text a = text_or_none (written (operand a)) where
  text_or_none : Option Text → Text
  text_or_none None = []
  text_or_none (Some text) = text

-- ---- exceptions

-- what the slot `args` holds: the items of a tuple, or one value
abbrev pub args_in : List (Option Value) → List Value
args_in (Some (v.Tuple vs) ∷ slots) = v.items vs
args_in (Some x ∷ slots) = x ∷ []
args_in slots = []

abbrev pub exception_text : World → ClassId → List (Option Value) → (Value → Act Text) → Act Text
exception_text w c slots repr = then_say (say (class_name w c)) (between (codes "(") (items_text repr (args_in slots)) (codes ")"))

-- ---- `repr`

abbrev pub seen_repr : World → Writer → Seen → Act Text
seen_repr w deeper (seen.Tuple vs) = nested w deeper (λ repr. between (codes "(") (items_text repr vs) (tuple_end vs))
seen_repr w deeper (seen.Listed h n vs) = nested w deeper (λ repr. between (codes "[") (items_text repr vs) (codes "]"))
seen_repr w deeper (seen.Mapped h n es) = nested w deeper (λ repr. between (codes "{") (items_text (entry_text repr) es) (codes "}"))
seen_repr w deeper (seen.Instance h n c slots) = choose (is_exception w c) (nested w deeper (exception_text w c slots)) (say (in_angles (class_name w c) (codes " object")))
seen_repr w deeper (seen.Range start stop step) = say (range_text start stop step)
seen_repr w deeper (seen.Class c) = say (in_angles (codes "class ") (class_name w c))
seen_repr w deeper (seen.Function m n) = say (in_angles (codes "function ") (function_name w m n))
seen_repr w deeper (seen.Bound receiver method) = say (in_angles (codes "bound method ") (method_name w method))
seen_repr w deeper (seen.Module m) = say (in_angles (codes "module ") (module_name w m))
seen_repr w deeper (seen.BuiltIn b) = say (in_angles (codes "builtin ") (name_of b))
seen_repr w deeper other = say (atom_text other)

-- with so many levels of containers
abbrev pub repr : World → ℕ → Value → Act Text
repr w zero x = look w x >>= seen_repr w None
repr w (suc levels) x = look w x >>= seen_repr w (Some (repr w levels))

-- ---- `str`

-- of an exception nothing, the `str` of its one argument, or all arguments; a KeyError gives the `repr` of its one
abbrev pub args_text : World → Bool → Writer → Writer → List Value → Act Text
args_text w is_key_error (Some repr) (Some str) [] = give []
args_text w true (Some repr) (Some str) (x ∷ []) = repr x
args_text w false (Some repr) (Some str) (x ∷ []) = str x
args_text w is_key_error (Some repr) (Some str) xs = between (codes "(") (items_text repr xs) (codes ")")
args_text w is_key_error repr str xs = raise w kind.RecursionError

abbrev pub instance_str : World → Writer → Writer → Seen → ClassId → List (Option Value) → Act Text
instance_str w repr str a c slots = choose (is_exception w c) (args_text w (is_below w c (id.Exc kind.KeyError)) repr str (args_in slots)) (seen_repr w repr a)

abbrev pub seen_str : World → Writer → Writer → Seen → Act Text
seen_str w repr str (seen.Points text) = say text
seen_str w repr str (seen.Instance h n c slots) = instance_str w repr str (seen.Instance h n c slots) c slots
seen_str w repr str other = seen_repr w repr other

abbrev pub str : World → ℕ → Value → Act Text
str w zero x = look w x >>= seen_str w None None
str w (suc levels) x = look w x >>= seen_str w (Some (repr w levels)) (Some (str w levels))
