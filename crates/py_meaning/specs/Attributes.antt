-- Attributes.
use Rattle.std.specs.Prelude.{ℕ, List, slice_get, slice_set, Option, Some, None}
use Rattle.std.specs.List.{position}
use Rattle.std.specs.Str.{bytes_eq}
use Rattle.py_tree.specs.Syntax.{Text}
use Rattle.py_values.specs.Builtins.{text_methods, list_methods, dict_methods, named_among}
use Rattle.py_values.specs.declared.builtin.Builtin.{Builtin}
use Rattle.py_values.specs.declared.class_id.ClassId.{ClassId}
use Rattle.py_values.specs.declared.exception.ExcKind.TheVariants as kind
use Rattle.py_values.specs.declared.value.Home.{Home}
use Rattle.gradual_types.specs.declared.facts.Slot.{Slot}
use Rattle.gradual_types.specs.declared.py_type.PyType.{PyType}
use Rattle.gradual_types.specs.declared.py_type.PyType.TheVariants.{Dynamic}
use Rattle.gradual_types.specs.Values as v
use Rattle.gradual_types.specs.Values.{Value}
use Rattle.gradual_types.specs.States.{value_of}
use Rattle.py_meaning.specs.Acts.{Act, ◌>>=◌, ◌>>◌, give}
use Rattle.py_meaning.specs.Modules.{World, Setting}
use Rattle.py_meaning.specs.Classes.{Found, slots_of, method_of}
use Rattle.py_meaning.specs.Looks as seen
use Rattle.py_meaning.specs.Looks.{Seen, look, raise, or_raise, write, may_write_at, see_object, home_of}
use Rattle.py_meaning.specs.Boundaries.{Origin, pass}
use Rattle.py_meaning.specs.Names.{globals_of}

-- ---- slots

abbrev pub slot_number : List Slot → Text → Option ℕ
slot_number slots name = position (λ slot. bytes_eq name slot.name) slots

abbrev pub slot_type : List Slot → ℕ → PyType
slot_type slots n = type_in (slice_get slots n) where
  type_in : Option Slot → PyType
  type_in None = Dynamic
  type_in (Some slot) = slot.kind

abbrev pub held : Option (Option Value) → Option Value
held None = None
held (Some value) = value

-- ---- reading

abbrev pub bound_builtin : World → Value → Option Builtin → Act Value
bound_builtin w receiver None = raise w kind.AttributeError
bound_builtin w receiver (Some b) = give (v.Bound receiver (v.BuiltIn b))

abbrev pub bound_method : World → Value → Found → Act Value
bound_method w receiver None = raise w kind.AttributeError
bound_method w receiver (Some f) = give (v.Bound receiver (v.Function f.0 f.1))

abbrev pub function_or_raise : World → Found → Act Value
function_or_raise w None = raise w kind.AttributeError
function_or_raise w (Some f) = give (v.Function f.0 f.1)

-- a slot, where it is set, or else a method, bound
abbrev pub member : World → Value → ClassId → List (Option Value) → Text → Option ℕ → Act Value
member w x class slots name (Some n) = or_raise w kind.AttributeError (held (slice_get slots n))
member w x class slots name None = bound_method w x (method_of w class name)

abbrev pub attribute : World → Value → Seen → Text → Act Value
attribute w x (seen.Instance h n class slots) name = member w x class slots name (slot_number (slots_of w class) name)
attribute w x (seen.Class class) name = function_or_raise w (method_of w class name)
attribute w x (seen.Module m) name = λ s. or_raise w kind.AttributeError (value_of name (globals_of w m s)) s
attribute w x (seen.Points text) name = bound_builtin w x (named_among text_methods name)
attribute w x (seen.Listed h n vs) name = bound_builtin w x (named_among list_methods name)
attribute w x (seen.Mapped h n es) name = bound_builtin w x (named_among dict_methods name)
attribute w x other name = raise w kind.AttributeError

abbrev pub get_attribute : World → Value → Text → Act Value
get_attribute w x name = look w x >>= λ a. attribute w x a name

-- ---- writing

abbrev pub put_slot : World → Home → ℕ → ℕ → Value → Seen → Act (Unit {0})
put_slot w h n number value (seen.Instance i m class slots) = write w h n (v.Instance class (slice_set slots number (Some value)))
put_slot w h n number value other = raise w kind.AttributeError

abbrev pub set_slot : Setting → Home → ℕ → ClassId → Origin → Value → Option ℕ → Act (Unit {0})
set_slot c h n class origin value None = raise c.world kind.AttributeError
set_slot c h n class origin value (Some number) = do
  passed ← pass c origin (slot_type (slots_of c.world class) number) value
  object ← see_object c.world h n
  put_slot c.world h n number passed object

abbrev pub no_attribute : World → Option Home → Act (Unit {0})
no_attribute w h = may_write_at w h >> raise w kind.AttributeError

-- the test of the write stands before all others; a slot of an instance alone can be written
abbrev pub write_attribute : Setting → Value → Text → Origin → Value → Seen → Act (Unit {0})
write_attribute c x name origin value (seen.Instance h n class slots) =
    may_write_at c.world (home_of x) >> set_slot c h n class origin value (slot_number (slots_of c.world class) name)
write_attribute c x name origin value (seen.Module m) = no_attribute c.world (home_of x)
write_attribute c x name origin value (seen.Class class) = no_attribute c.world (home_of x)
write_attribute c x name origin value (seen.Function m n) = no_attribute c.world (home_of x)
write_attribute c x name origin value other = raise c.world kind.AttributeError

abbrev pub set_attribute : Setting → Value → Text → Origin → Value → Act (Unit {0})
set_attribute c x name origin value = look c.world x >>= write_attribute c x name origin value
