-- Classes: their lines, slots and methods, and which is below which.
use Rattle.std.specs.Prelude.{ℕ, ◌==◌, ◌&&◌, Bool, false, List, [], ◌∷◌, map, codes, Option, Some, None, slice_get}
use Rattle.std.specs.List.{find, list_any}
use Rattle.std.specs.Option.{option_or}
use Rattle.std.specs.Str.{bytes_eq}
use Rattle.py_tree.specs.Syntax.{Text}
use Rattle.py_values.specs.declared.class_id.ClassId.{ClassId}
use Rattle.py_values.specs.declared.class_id.ClassId.TheVariants as id
use Rattle.py_values.specs.declared.exception.ExcKind.{ExcKind}
use Rattle.py_values.specs.declared.exception.ExcKind.TheVariants as kind
use Rattle.py_values.specs.Exceptions.{exceptions_above, name_of}
use Rattle.gradual_types.specs.declared.facts.ClassFacts.{ClassFacts}
use Rattle.gradual_types.specs.declared.facts.Slot.{Slot}
use Rattle.gradual_types.specs.declared.facts.Method.{Method}
use Rattle.gradual_types.specs.declared.py_type.PyType.TheVariants.{Dynamic}
use Rattle.py_meaning.specs.Modules.{World, ModuleText, text_of}

-- an exception class has the slot `args`
abbrev pub exception_facts : ExcKind → ClassFacts
exception_facts k = record {
  name = name_of k;
  line = map id.Exc (exceptions_above k);
  slots = record { name = codes "args"; kind = Dynamic } ∷ [];
  methods = [];
}

abbrev pub class_in : Option ModuleText → ℕ → Option ClassFacts
class_in None n = None
class_in (Some t) n = slice_get t.facts.classes n

abbrev pub class_facts : World → ClassId → Option ClassFacts
class_facts w (id.User m n) = class_in (text_of w m) n
class_facts w (id.Exc k) = Some (exception_facts k)

abbrev pub class_name : World → ClassId → Text
class_name w c = name_in (class_facts w c) where
  name_in : Option ClassFacts → Text
  name_in None = []
  name_in (Some c) = c.name

-- ---- which is below which

abbrev pub same_class : ClassId → ClassId → Bool
same_class (id.User m n) (id.User p q) = m == p && n == q
same_class (id.Exc a) (id.Exc b) = bytes_eq (name_of a) (name_of b)
same_class a b = false

-- the class itself, the one that it is directly below, and so on
abbrev pub line_of : World → ClassId → List ClassId
line_of w c = line_in (class_facts w c) where
  line_in : Option ClassFacts → List ClassId
  line_in None = []
  line_in (Some c) = c.line

-- it is that class, or below it
abbrev pub is_below : World → ClassId → ClassId → Bool
is_below w c above = list_any (same_class above) (line_of w c)

abbrev pub is_exception : World → ClassId → Bool
is_exception w c = is_below w c (id.Exc kind.Exception)

-- ---- members

abbrev pub slots_of : World → ClassId → List Slot
slots_of w c = slots_in (class_facts w c) where
  slots_in : Option ClassFacts → List Slot
  slots_in None = []
  slots_in (Some c) = c.slots

-- a method that was found: the number of its module, and that of its function
abbrev pub Found : Type 0
Found = Option (ℕ × ℕ)

abbrev pub found_in : ℕ → Option Method → Found
found_in m None = None
found_in m (Some method) = Some (m, method.function)

abbrev pub method_in : Text → ℕ → Option ClassFacts → Found
method_in name m None = None
method_in name m (Some c) = found_in m (find (λ method. bytes_eq name method.name) c.methods)

-- a method that stands in the class itself
abbrev pub own_method : World → Text → ClassId → Found
own_method w name (id.User m n) = method_in name m (class_in (text_of w m) n)
own_method w name (id.Exc k) = None

-- that of the first of these classes which has one
abbrev pub first_method : World → Text → List ClassId → Found
first_method w name [] = None
first_method w name (c ∷ cs) = option_or (own_method w name c) (first_method w name cs)

abbrev pub method_of : World → ClassId → Text → Found
method_of w c name = first_method w name (line_of w c)
