-- The facts of a module, from its trees and from what its imports bind.
use Rattle.std.specs.Prelude.{ℕ, suc, ◌==◌, Bool, false, if◌then◌else◌, List, [], ◌∷◌, ◌++◌, map, codes, slice_get, length, Option, Some, None, is_some}
use Rattle.std.specs.List.{flat_map}
use Rattle.std.specs.Str.{bytes_eq}
use Rattle.py_tree.specs.Syntax as x
use Rattle.py_tree.specs.Syntax.{Text, Param, Kind, Statement, Statements, Function}
use Rattle.py_tree.specs.Order.{of_scope}
use Rattle.py_tree.specs.declared.statement.Import.{Import}
use Rattle.py_values.specs.Exceptions.{exceptions_above}
use Rattle.py_values.specs.declared.class_id.ClassId.{ClassId}
use Rattle.py_values.specs.declared.class_id.ClassId.TheVariants as id
use Rattle.symbols.specs.Bindings.{first_mentions}
use Rattle.symbols.specs.Classes.{classes}
use Rattle.symbols.specs.ModuleKinds.{is_static}
use Rattle.symbols.specs.declared.class.Class.{Class}
use Rattle.symbols.specs.declared.outer.Outer.{Outer}
use Rattle.gradual_types.specs.declared.facts.ClassFacts.{ClassFacts}
use Rattle.gradual_types.specs.declared.facts.Facts.{Facts}
use Rattle.gradual_types.specs.declared.facts.Method.{Method}
use Rattle.gradual_types.specs.declared.facts.Parameter.{Parameter}
use Rattle.gradual_types.specs.declared.facts.Signature.{Signature}
use Rattle.gradual_types.specs.declared.facts.Slot.{Slot}
use Rattle.gradual_types.specs.declared.py_type.PyType.TheVariants.{Dynamic}
use Rattle.py_meaning.specs.Modules.{FunctionIn, functions, written_name}

-- No place is typed yet: every type is Dynamic.

-- ---- functions

abbrev pub parameter : Param → Parameter
parameter p = record { name = p.name; kind = Dynamic; has_default = is_some p.default }

abbrev pub signature : Function → Signature
signature (x.Defined name params result body) = record { params = map parameter params; result = Dynamic }

abbrev pub signatures : Statements → List Signature
signatures body = map (λ (f : FunctionIn). signature f.function) (functions body)

-- ---- classes

abbrev pub is_in : ℕ → Option ℕ → Bool
is_in n None = false
is_in n (Some m) = n == m

-- the methods of the class of that number, where so many functions stand before these
abbrev pub methods_from : ℕ → ℕ → List FunctionIn → List Method
methods_from n i [] = []
methods_from n i (f ∷ fs) = if is_in n f.class then record { name = written_name f.function; function = i } ∷ methods_from n (suc i) fs else methods_from n (suc i) fs

abbrev pub line_in : Option ClassFacts → List ClassId
line_in None = []
line_in (Some c) = c.line

abbrev pub classes_in : Option (Option Facts) → List ClassFacts
classes_in (Some (Some facts)) = facts.classes
classes_in other = []

-- the line of a base: an earlier class of the module, a class of another one, or an exception class
abbrev pub base_line : ℕ → List (Option Facts) → List ClassFacts → Option ClassId → List ClassId
base_line own others earlier None = []
base_line own others earlier (Some (id.Exc k)) = map id.Exc (exceptions_above k)
base_line own others earlier (Some (id.User m n)) = if m == own then line_in (slice_get earlier n) else line_in (slice_get (classes_in (slice_get others m)) n)

abbrev pub slot : Text → Slot
slot name = record { name = name; kind = Dynamic }

abbrev pub facts_of_class : ℕ → List (Option Facts) → List FunctionIn → List ClassFacts → Class → ClassFacts
facts_of_class own others fs earlier c = record {
  name = c.name;
  line = c.kind.id ∷ base_line own others earlier c.base;
  slots = map slot c.kind.slots;
  methods = methods_from (length earlier) 0 fs;
}

abbrev pub facts_of_classes : ℕ → List (Option Facts) → List FunctionIn → List ClassFacts → List Class → List ClassFacts
facts_of_classes own others fs earlier [] = earlier
facts_of_classes own others fs earlier (c ∷ cs) = facts_of_classes own others fs (earlier ++ facts_of_class own others fs earlier c ∷ []) cs

-- ---- host slots

abbrev pub host_names : Kind → List Text
host_names (x.From from is) = if bytes_eq from (codes "__host__") then map (λ (i : Import). i.name) is else []
host_names kind = []

abbrev pub statement_hosts : Statement → List Text
statement_hosts (x.On line kind) = host_names kind

-- each name once
abbrev pub hosts : Statements → List Text
hosts body = first_mentions (flat_map statement_hosts (of_scope body))

-- ---- the module

-- the facts of a module of these trees, over what its imports bind and the facts of the other modules by their numbers
abbrev pub facts_of : List (Option Facts) → Outer → Statements → Facts
facts_of others o body = record {
  name = o.name;
  is_static = is_static body;
  signatures = signatures body;
  classes = facts_of_classes o.number others (functions body) [] (classes o body);
  typed = [];
  hosts = hosts body;
}
