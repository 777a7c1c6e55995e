-- The faults of a module's names, and the first of them.
use Rattle.std.specs.Prelude.{◌≡◌, ◌≤◌, ◌<◌, ◌⊎◌, ℕ, Bool, true, false, nat_lt, List, [], ◌∷◌, ◌++◌, map, length}
use Rattle.std.specs.List.{list_any, filter, flat_map}
use Rattle.std.specs.Str.{bytes_eq}
use Rattle.py_tree.specs.Syntax as x
use Rattle.py_tree.specs.Syntax.{Text, Param, Target, Statement, Kind, Statements, Function, ClassDef}
use Rattle.py_tree.specs.Order.{of_scope}
use Rattle.py_tree.specs.TopPart.{is_import, below_top_part}
use Rattle.py_tree.specs.Codes.{number_of}
use Rattle.py_tree.specs.declared.code.Code.{Code}
use Rattle.py_tree.specs.declared.code.Code.TheVariants.{BadBase, MemberClash, BoundTwice, LateImport, SpecialName}
use Rattle.py_tree.specs.declared.fault.Fault.{Fault}
use Rattle.symbols.specs.declared.outer.Outer.{Outer}
use Rattle.symbols.specs.declared.binding.Binding.{Binding}
use Rattle.symbols.specs.declared.binding.BindingKind.{BindingKind}
use Rattle.symbols.specs.declared.binding.BindingKind.TheVariants as by
use Rattle.symbols.specs.declared.class.ClassKind.{ClassKind}
use Rattle.symbols.specs.Words.{among}
use Rattle.symbols.specs.Bindings.{bound, bindings, names_of, first_mentions, param_names}
use Rattle.symbols.specs.Classes.{Found, found_classes}
use Rattle.symbols.specs.Functions.{FunctionAt, functions}
use Rattle.symbols.specs.SpecialNames.{at, module_context, special_lines}

-- ---- a base that is none

abbrev pub bad_lines : List Found → List ℕ
bad_lines classes = flat_map (λ c. at c.class.line c.is_bad) classes

abbrev pub bad_bases : Outer → Statements → List ℕ
bad_bases o body = bad_lines (found_classes o body)

-- ---- a name that is both a slot and a method, along a class and its bases

abbrev pub clash : ClassKind → Bool
clash c = list_any (λ slot. among slot c.methods) c.slots

abbrev pub clash_lines : List Found → List ℕ
clash_lines classes = flat_map (λ c. at c.class.line (clash c.class.kind)) classes

abbrev pub member_clashes : Outer → Statements → List ℕ
member_clashes o body = clash_lines (found_classes o body)

-- ---- names bound twice

abbrev pub is_named : Text → Binding → Bool
is_named name b = bytes_eq name b.name

-- the line of the second of a name's bindings, where one of them is of a kind that counts
abbrev pub second_binding : (BindingKind → Bool) → List Binding → List ℕ
second_binding counts (a ∷ b ∷ rest) = at b.line (list_any (λ c. counts c.kind) (a ∷ b ∷ rest))
second_binding counts bs = []

abbrev pub bound_again : (BindingKind → Bool) → List Binding → List ℕ
bound_again counts bs = flat_map (λ name. second_binding counts (filter (is_named name) bs)) (first_mentions (names_of bs))

-- by an import, a def or a class
abbrev pub is_definition : BindingKind → Bool
is_definition by.Other = false
is_definition kind = true

abbrev pub is_any : BindingKind → Bool
is_any kind = true

-- a member of a class body: a field or a def
abbrev pub field_binding : ℕ → Target → List Binding
field_binding line (x.ToName name) = bound line by.Other name ∷ []
field_binding line target = []

abbrev pub member_binding : ℕ → Kind → List Binding
member_binding line (x.Annotate t kind value) = field_binding line t
member_binding line (x.Def (x.Defined name params result body)) = bound line by.Def name ∷ []
member_binding line kind = []

abbrev pub member_of : Statement → List Binding
member_of (x.On line kind) = member_binding line kind

abbrev pub members : ClassDef → List Binding
members (x.Classed name base body) = flat_map member_of (of_scope body)

-- two members of one class have one name
abbrev pub members_twice : Kind → List ℕ
members_twice (x.Class c) = bound_again is_any (members c)
members_twice kind = []

abbrev pub in_class : Statement → List ℕ
in_class (x.On line kind) = members_twice kind

-- the names are fewer than the parameters
abbrev pub repeats : List Param → Bool
repeats params = nat_lt (length (first_mentions (param_names params))) (length params)

abbrev pub repeats_param : Function → Bool
repeats_param (x.Defined name params result body) = repeats params

abbrev pub repeated_params : List FunctionAt → List ℕ
repeated_params fs = flat_map (λ f. at f.line (repeats_param f.function)) fs

abbrev pub bound_twice : Statements → List ℕ
bound_twice body = bound_again is_definition (bindings body) ++ (flat_map in_class (of_scope body) ++ repeated_params (functions body))

-- ---- imports below the top part

abbrev pub import_line : Statement → List ℕ
import_line (x.On line kind) = at line (is_import kind)

abbrev pub import_lines : Statements → List ℕ
import_lines body = flat_map import_line (of_scope body)

abbrev pub imports_in : Function → List ℕ
imports_in (x.Defined name params result body) = import_lines body

abbrev pub imports_of : List FunctionAt → List ℕ
imports_of fs = flat_map (λ f. imports_in f.function) fs

abbrev pub late_imports : Statements → List ℕ
late_imports body = import_lines (below_top_part body) ++ imports_of (functions body)

-- ---- the first fault

abbrev pub coded : Code → List ℕ → List Fault
coded code lines = map (λ line. record { line = line; code = code }) lines

abbrev pub faults : Outer → Statements → List Fault
faults o body =
    coded BadBase (bad_bases o body) ++ (coded MemberClash (member_clashes o body) ++ (coded BoundTwice (bound_twice body)
    ++ (coded LateImport (late_imports body) ++ coded SpecialName (special_lines (module_context body) body))))

-- on an earlier line, or on the same with a code that is no greater
abbrev pub IsNoLater : Fault → Fault → Type 0
IsNoLater f g = (f.line < g.line) ⊎ ((f.line ≡ g.line) × (number_of f.code ≤ number_of g.code))

-- it is one of them
abbrev pub In : Fault → List Fault → Type 0
In f [] = ⊥
In f (g ∷ rest) = (f ≡ g) ⊎ In f rest

-- the least line, and then the least code
pub record IsFirst (faults : List Fault) (f : Fault) : Type 0 where
  pub is_one : In f faults
  pub least : (g : Fault) → In g faults → IsNoLater f g
