-- The classes of a module with their bases, slots and methods, in the order of the text.
use Rattle.std.specs.Prelude.{ℕ, if◌then◌else◌, Bool, true, false, List, [], ◌∷◌, ◌++◌, map, length, codes, Option, Some, None}
use Rattle.std.specs.List.{flat_map, find}
use Rattle.std.specs.Option.{option_or}
use Rattle.std.specs.Str.{bytes_eq}
use Rattle.py_tree.specs.Syntax as x
use Rattle.py_tree.specs.Syntax.{Text, Expression, Target, Statement, Kind, Statements, Function, ClassDef}
use Rattle.py_tree.specs.Order.{of_scope}
use Rattle.py_values.specs.declared.exception.ExcKind.{ExcKind}
use Rattle.py_values.specs.declared.class_id.ClassId.{ClassId}
use Rattle.py_values.specs.declared.class_id.ClassId.TheVariants as id
use Rattle.symbols.specs.declared.class.Class.{Class}
use Rattle.symbols.specs.declared.class.ClassKind.{ClassKind}
use Rattle.symbols.specs.declared.outer.Outer.{Outer}
use Rattle.symbols.specs.declared.outer.OuterBinding.{OuterBinding}
use Rattle.symbols.specs.declared.outer.OuterKind.{OuterKind}
use Rattle.symbols.specs.declared.outer.OuterKind.TheVariants as outer
use Rattle.symbols.specs.declared.outer.ModuleClass.{ModuleClass}
use Rattle.symbols.specs.Words.{exception_named}
use Rattle.symbols.specs.BaseKinds as base
use Rattle.symbols.specs.BaseKinds.{Base}
use Rattle.symbols.specs.Bindings.{first_mentions}

-- a class, whether what stands for its base is one or not
pub record Found : Type 0 where
  pub class : Class
  pub is_bad : Bool

-- ---- what stands in a class

abbrev pub target_name : Target → List Text
target_name (x.ToName name) = name ∷ []
target_name target = []

-- the name of an annotated field
abbrev pub field_name : Kind → List Text
field_name (x.Annotate t kind value) = target_name t
field_name kind = []

abbrev pub field_names : Statement → List Text
field_names (x.On line kind) = field_name kind

abbrev pub method_name : Kind → List Text
method_name (x.Def (x.Defined name params result body)) = name ∷ []
method_name kind = []

abbrev pub method_names : Statement → List Text
method_names (x.On line kind) = method_name kind

-- ---- slots

abbrev pub is_self : Expression → Bool
is_self (x.Name object) = bytes_eq object (codes "self")
is_self e = false

-- NAME of `self.NAME`
abbrev pub self_attribute : Target → List Text
self_attribute (x.ToAttr e name) = if is_self e then name ∷ [] else []
self_attribute target = []

-- the name that a statement assigns to `self`, or annotates there
abbrev pub self_name : Kind → List Text
self_name (x.Assign t e) = self_attribute t
self_name (x.Annotate t kind value) = self_attribute t
self_name (x.Augment t op e) = self_attribute t
self_name kind = []

abbrev pub self_names : Statement → List Text
self_names (x.On line kind) = self_name kind

abbrev pub assigned_names : Statements → List Text
assigned_names body = flat_map self_names (of_scope body)

abbrev pub init_names : Function → List Text
init_names (x.Defined name params result body) = if bytes_eq name (codes "__init__") then assigned_names body else []

abbrev pub kind_init_names : Kind → List Text
kind_init_names (x.Def f) = init_names f
kind_init_names kind = []

abbrev pub in_init : Statement → List Text
in_init (x.On line kind) = kind_init_names kind

-- its annotated fields, and then what its own `__init__` assigns to `self`
abbrev pub own_slots : List Statement → List Text
own_slots body = flat_map field_names body ++ flat_map in_init body

-- ---- bases

-- an exception class has the slot `args`
abbrev pub exception_kind : ExcKind → ClassKind
exception_kind kind = record { id = id.Exc kind; slots = codes "args" ∷ []; methods = [] }

abbrev pub base_or : Option ClassKind → Base → Base
base_or (Some kind) other = base.Class kind
base_or None other = other

abbrev pub class_kind : OuterKind → Option ClassKind
class_kind (outer.Class c) = Some c
class_kind kind = None

abbrev pub module_classes : OuterKind → List ModuleClass
module_classes (outer.Module classes) = classes
module_classes kind = []

abbrev pub kind_of_outer : Option OuterBinding → OuterKind
kind_of_outer None = outer.Other
kind_of_outer (Some b) = b.kind

abbrev pub outer_kind : Outer → Text → OuterKind
outer_kind o name = kind_of_outer (find (λ b. bytes_eq name b.name) o.bindings)

abbrev pub kind_of_found : Option Found → Option ClassKind
kind_of_found None = None
kind_of_found (Some c) = Some c.class.kind

abbrev pub earlier_class : List Found → Text → Option ClassKind
earlier_class earlier name = kind_of_found (find (λ c. bytes_eq name c.class.name) earlier)

abbrev pub kind_of_exception : Option ExcKind → Option ClassKind
kind_of_exception None = None
kind_of_exception (Some kind) = Some (exception_kind kind)

abbrev pub kind_of_member : Option ModuleClass → Option ClassKind
kind_of_member None = None
kind_of_member (Some c) = Some c.class

abbrev pub class_of_module : List ModuleClass → Text → Option ClassKind
class_of_module classes name = kind_of_member (find (λ c. bytes_eq name c.name) classes)

abbrev pub object_or_bad : Text → Base
object_or_bad name = if bytes_eq name (codes "object") then base.None else base.Bad

-- a class that stands earlier in the module, or an imported class
abbrev pub known_class : Outer → List Found → Text → Option ClassKind
known_class o earlier name = option_or (earlier_class earlier name) (class_kind (outer_kind o name))

-- an exception class, or `object`
abbrev pub own_base : Text → Base
own_base name = base_or (kind_of_exception (exception_named name)) (object_or_bad name)

abbrev pub named_base : Outer → List Found → Text → Base
named_base o earlier name = base_or (known_class o earlier name) (own_base name)

-- a class of an imported module
abbrev pub module_base : Outer → Text → Text → Base
module_base o from name = base_or (class_of_module (module_classes (outer_kind o from)) name) base.Bad

abbrev pub member_base : Outer → Expression → Text → Base
member_base o (x.Name from) name = module_base o from name
member_base o e name = base.Bad

abbrev pub expression_base : Outer → List Found → Expression → Base
expression_base o earlier (x.Name name) = named_base o earlier name
expression_base o earlier (x.Attr e name) = member_base o e name
expression_base o earlier e = base.Bad

abbrev pub base_of : Outer → List Found → Option Expression → Base
base_of o earlier None = base.None
base_of o earlier (Some e) = expression_base o earlier e

abbrev pub base_slots : Base → List Text
base_slots (base.Class kind) = kind.slots
base_slots b = []

abbrev pub base_methods : Base → List Text
base_methods (base.Class kind) = kind.methods
base_methods b = []

abbrev pub base_id : Base → Option ClassId
base_id (base.Class kind) = Some kind.id
base_id b = None

abbrev pub is_bad : Base → Bool
is_bad base.Bad = true
is_bad b = false

-- ---- the classes of a module

-- the slots of the base, and then its own, each at its first mention; the methods of the base, and then its own
abbrev pub kind_below : ClassId → Base → List Text → List Text → ClassKind
kind_below number b slots methods = record {
  id = number;
  slots = first_mentions (base_slots b ++ slots);
  methods = first_mentions (base_methods b ++ methods);
}

abbrev pub class_below : ClassId → Base → ℕ → Text → List Text → List Text → Found
class_below number b line name slots methods = record {
  class = record {
    name = name;
    line = line;
    base = base_id b;
    kind = kind_below number b slots methods;
    methods = first_mentions methods;
  };
  is_bad = is_bad b;
}

abbrev pub name_of : ClassDef → Text
name_of (x.Classed name base body) = name

abbrev pub written_base : ClassDef → Option Expression
written_base (x.Classed name base body) = base

abbrev pub body_of : ClassDef → Statements
body_of (x.Classed name base body) = body

-- the class that stands behind these
abbrev pub class_behind : Outer → List Found → ℕ → ClassDef → Found
class_behind o earlier line (x.Classed name base body) = class_below (id.User o.number (length earlier)) (base_of o earlier base) line name (own_slots (of_scope body)) (flat_map method_names (of_scope body))

abbrev pub classes_behind : Outer → List Found → List Statement → List Found
classes_behind o earlier [] = []
classes_behind o earlier (x.On line (x.Class c) ∷ rest) = class_behind o earlier line c ∷ classes_behind o (earlier ++ class_behind o earlier line c ∷ []) rest
classes_behind o earlier (other ∷ rest) = classes_behind o earlier rest

abbrev pub found_classes : Outer → Statements → List Found
found_classes o body = classes_behind o [] (of_scope body)

abbrev pub classes_in : List Found → List Class
classes_in found = map (λ c. c.class) found

abbrev pub classes : Outer → Statements → List Class
classes o body = classes_in (found_classes o body)
