-- The names with a meaning of their own that stand where they may not, and the lines of such faults.
use Rattle.std.specs.Prelude.{ℕ, Bool, true, false, not, ◌&&◌, ◌||◌, if◌then◌else◌, List, [], ◌∷◌, ◌++◌, codes, Option, Some, None, is_some}
use Rattle.std.specs.List.{list_any, find, filter, flat_map}
use Rattle.std.specs.Str.{bytes_eq}
use Rattle.py_tree.specs.Syntax as x
use Rattle.py_tree.specs.Syntax.{Text, Expression, Expressions, Pairs, Keywords, Param, Target, Kind, Statement, Statements, Branches, Clauses, Function, ClassDef}
use Rattle.py_tree.specs.Order.{of_scope}
use Rattle.py_tree.specs.declared.statement.Import.{Import}
use Rattle.symbols.specs.declared.binding.Binding.{Binding}
use Rattle.symbols.specs.declared.binding.StaticName.{StaticName}
use Rattle.symbols.specs.declared.binding.StaticName.TheVariants as static
use Rattle.symbols.specs.declared.context.Use.{Use}
use Rattle.symbols.specs.declared.resolved.ModuleKind.{ModuleKind}
use Rattle.symbols.specs.declared.resolved.ModuleKind.TheVariants as kind
use Rattle.symbols.specs.Words.{among, is_builtin, is_special, is_private}
use Rattle.symbols.specs.Bindings.{bindings, locals_of, alias_or, is_marker_import}
use Rattle.symbols.specs.ModuleKinds.{module_kind}

-- where names stand
pub record Context : Type 0 where
  pub in_class : Bool
  pub in_method : Bool  -- in the body of a method
  pub statics : Text → Option StaticName  -- what the module binds to static names
  pub locals : List Text  -- of the function, which hide them

-- the names of `typing` are static names in every module, those of `__static__` in a static one
abbrev pub static_under : ModuleKind → Option StaticName → Option StaticName
static_under kind.Static name = name
static_under kind.Strict (Some static.Optional) = Some static.Optional
static_under kind.Strict (Some static.Any) = Some static.Any
static_under kind.Strict name = None

abbrev pub static_by : ModuleKind → Binding → Option StaticName
static_by kind b = static_under kind b.static_name

-- the static name to which a name is bound among these bindings
abbrev pub static_in : ModuleKind → List Binding → Text → Option StaticName
static_in kind bs name = static_or (find (λ b. bytes_eq name b.name) (filter (λ b. is_some (static_by kind b)) bs)) where
  static_or : Option Binding → Option StaticName
  static_or None = None
  static_or (Some b) = static_by kind b

abbrev pub context_in : ModuleKind → List Binding → Context
context_in kind bs = record { in_class = false; in_method = false; statics = static_in kind bs; locals = [] }

abbrev pub module_context : Statements → Context
module_context body = context_in (module_kind body) (bindings body)

abbrev pub in_class_body : Context → Context
in_class_body c = record c { in_class = true }

abbrev pub with_locals : Context → List Text → Context
with_locals c names = record c { in_method = c.in_class; locals = names }

abbrev pub in_function_body : Context → List Param → Statements → Context
in_function_body c params body = with_locals c (locals_of params body)

abbrev pub static_of : Context → Text → Option StaticName
static_of c name = if among name c.locals then None else c.statics name

-- ---- one name

abbrev pub name_special : Text
name_special = codes "__name__"

abbrev pub all_special : Text
all_special = codes "__all__"

abbrev pub init_special : Text
init_special = codes "__init__"

-- a special name other than these, or, inside a class, a private one
abbrev pub forbidden : Context → List Text → Text → Bool
forbidden c allowed name = (is_special name && not (among name allowed)) || (c.in_class && is_private name)

abbrev pub forbidden_read : Context → Text → Bool
forbidden_read c name = forbidden c (name_special ∷ all_special ∷ []) name || bytes_eq name (codes "super")

abbrev pub forbidden_attribute : Context → Text → Bool
forbidden_attribute c name = forbidden c (name_special ∷ all_special ∷ init_special ∷ []) name

abbrev pub forbidden_target : Context → Text → Bool
forbidden_target c name = forbidden c (all_special ∷ init_special ∷ []) name

abbrev pub forbidden_keyword : Context → Text → Bool
forbidden_keyword c name = forbidden c (all_special ∷ []) name

-- a name that a module or a function binds
abbrev pub forbidden_binding : Context → Text → Bool
forbidden_binding c name = (forbidden c (all_special ∷ []) name || is_builtin name) || bytes_eq name (codes "super")

-- a name that a class binds
abbrev pub forbidden_field : Context → Text → Bool
forbidden_field c name = forbidden c (all_special ∷ []) name

abbrev pub forbidden_method : Context → Text → Bool
forbidden_method c name = forbidden c (all_special ∷ init_special ∷ []) name

-- ---- static names

abbrev pub plain : Use
plain = record { in_type = false; called = false }

abbrev pub typed : Use
typed = record { in_type = true; called = false }

abbrev pub called : Use → Use
called u = record u { called = true }

abbrev pub uncalled : Use → Use
uncalled u = record u { called = false }

abbrev pub misplaced : Use → Option StaticName → Bool
misplaced u None = false
misplaced u (Some static.Optional) = not u.in_type
misplaced u (Some static.Any) = not u.in_type
misplaced u (Some static.Int64) = not (u.in_type || u.called)
misplaced u (Some static.CBool) = not (u.in_type || u.called)
misplaced u (Some static.Box) = not u.called
misplaced u (Some static.Cast) = not u.called

abbrev pub is_cast : Option StaticName → Bool
is_cast (Some static.Cast) = true
is_cast other = false

-- ---- expressions

abbrev pub is_named_super : Expression → Bool
is_named_super (x.Name name) = bytes_eq name (codes "super")
is_named_super e = false

abbrev pub has_none : Keywords → Bool
has_none x.end_of_keywords = true
has_none keys = false

abbrev pub takes_none : Expressions → Keywords → Bool
takes_none x.end_of_expressions keys = has_none keys
takes_none args keys = false

-- `super()`
abbrev pub is_super : Expression → Bool
is_super (x.Call callee args keys) = takes_none args keys && is_named_super callee
is_super e = false

-- the callee is `cast`
abbrev pub casts : Context → Expression → Bool
casts c (x.Name name) = is_cast (static_of c name)
casts c e = false

-- the first argument of `cast` is a type
abbrev pub argument_use : Bool → Use → Use
argument_use cast u = if cast then typed else u

-- whether such a name stands in the expression
abbrev mutual
  pub special : Context → Use → Expression → Bool
  special c u (x.Name name) = forbidden_read c name || misplaced u (static_of c name)
  special c u (x.Tuple items) = all_special_in c (uncalled u) items
  special c u (x.Listed items) = all_special_in c (uncalled u) items
  special c u (x.Dict items) = pairs_special c (uncalled u) items
  special c u (x.Unary op e) = special c (uncalled u) e
  special c u (x.Binary op a b) = special c (uncalled u) a || special c (uncalled u) b
  special c u (x.Compare op a b) = special c (uncalled u) a || special c (uncalled u) b
  special c u (x.Is negated e right) = special c (uncalled u) e
  special c u (x.Not e) = special c (uncalled u) e
  special c u (x.And a b) = special c (uncalled u) a || special c (uncalled u) b
  special c u (x.Or a b) = special c (uncalled u) a || special c (uncalled u) b
  special c u (x.Cond test value other) = special c (uncalled u) test || (special c (uncalled u) value || special c (uncalled u) other)
  -- `super().NAME(..)` in a method
  special c u (x.Attr e name) = forbidden_attribute c name || (not ((u.called && c.in_method) && is_super e) && special c (uncalled u) e)
  special c u (x.Index e i) = special c (uncalled u) e || special c (uncalled u) i
  special c u (x.Call callee args keys) = special c (called u) callee || (arguments_special (argument_use (casts c callee) (uncalled u)) c (uncalled u) args || keywords_special c (uncalled u) keys)
  special c u _ = false

  -- what is around the first of some arguments, and around the others
  pub arguments_special : Use → Context → Use → Expressions → Bool
  arguments_special first c u x.end_of_expressions = false
  arguments_special first c u (x.more_expressions e rest) = special c first e || all_special_in c u rest

  pub all_special_in : Context → Use → Expressions → Bool
  all_special_in c u x.end_of_expressions = false
  all_special_in c u (x.more_expressions e rest) = special c u e || all_special_in c u rest

  pub pairs_special : Context → Use → Pairs → Bool
  pairs_special c u x.end_of_pairs = false
  pairs_special c u (x.more_pairs (x.Paired key value) rest) = (special c u key || special c u value) || pairs_special c u rest

  pub keywords_special : Context → Use → Keywords → Bool
  keywords_special c u x.end_of_keywords = false
  keywords_special c u (x.more_keywords (x.Named name value) rest) = (forbidden_keyword c name || special c u value) || keywords_special c u rest

abbrev pub maybe_special : Context → Use → Option Expression → Bool
maybe_special c u None = false
maybe_special c u (Some e) = special c u e

-- ---- statements

abbrev pub target_special : Context → Target → Bool
target_special c (x.ToName name) = forbidden_binding c name
target_special c (x.ToAttr e name) = forbidden_target c name || special c plain e
target_special c (x.ToIndex e i) = special c plain e || special c plain i
target_special c (x.ToNames names) = list_any (forbidden_binding c) names

abbrev pub maybe_forbidden : Context → Option Text → Bool
maybe_forbidden c None = false
maybe_forbidden c (Some name) = forbidden_binding c name

-- the imported name and the name that it is bound to
abbrev pub member_special : Context → Import → Bool
member_special c i = forbidden c (all_special ∷ []) i.name || forbidden_binding c (alias_or i.alias i.name)

abbrev pub module_special : Context → Import → Bool
module_special c i = not (is_marker_import i) && member_special c i

abbrev pub from_special : Context → Text → List Import → Bool
from_special c from is = not (bytes_eq from (codes "__future__")) && list_any (member_special c) is

-- names, annotations and defaults of parameters, in the context around the function
abbrev pub param_special : Context → Param → Bool
param_special c p = (forbidden_binding c p.name || maybe_special c typed p.kind) || maybe_special c plain p.default

abbrev pub signature_special : Context → List Param → Option Expression → Bool
signature_special c params result = list_any (param_special c) params || maybe_special c typed result

-- the line, where there is a fault
abbrev pub at : ℕ → Bool → List ℕ
at line fault = if fault then line ∷ [] else []

-- whether such a name stands in the statement itself, and in no block of it; the conditions of an `if` and the clauses of a `try` have
-- lines of their own
abbrev pub own_special : Context → Kind → Bool
own_special c (x.Return value) = maybe_special c plain value
own_special c (x.Raise value) = maybe_special c plain value
own_special c (x.Imports is) = list_any (module_special c) is
own_special c (x.From from is) = from_special c from is
own_special c (x.Eval e) = special c plain e
own_special c (x.Assign t e) = target_special c t || special c plain e
own_special c (x.Annotate t kind value) = target_special c t || (special c typed kind || maybe_special c plain value)
own_special c (x.Augment t op e) = target_special c t || special c plain e
own_special c (x.While test body) = special c plain test
own_special c (x.For t e body) = target_special c t || special c plain e
own_special c (x.Def (x.Defined name params result body)) = forbidden_binding c name || signature_special c params result
own_special c (x.Class (x.Classed name base body)) = forbidden_binding c name || maybe_special c plain base
own_special c _ = false

-- a condition has the line of its `if` or `elif`
abbrev pub branch_lines : Context → Branches → List ℕ
branch_lines c x.end_of_branches = []
branch_lines c (x.more_branches (x.Tested line test body) rest) = at line (special c plain test) ++ branch_lines c rest

-- an except clause has the line of its `try`
abbrev pub clause_lines : Context → ℕ → Clauses → List ℕ
clause_lines c line x.end_of_clauses = []
clause_lines c line (x.more_clauses (x.Except matches name body) rest) = at line (maybe_special c plain matches || maybe_forbidden c name) ++ clause_lines c line rest

abbrev pub part_lines : Context → ℕ → Kind → List ℕ
part_lines c line (x.If tested orelse) = branch_lines c tested
part_lines c line (x.Try body handlers) = clause_lines c line handlers
part_lines c line _ = []

abbrev pub own_lines : Context → Statement → List ℕ
own_lines c (x.On line kind) = at line (own_special c kind) ++ part_lines c line kind

abbrev pub scope_lines : Context → Statements → List ℕ
scope_lines c body = flat_map (own_lines c) (of_scope body)

-- in the body of a function
abbrev pub body_lines : Context → Function → List ℕ
body_lines c (x.Defined name params result body) = scope_lines (in_function_body c params body) body

-- a field is a name
abbrev pub field_special : Context → Target → Bool
field_special c (x.ToName name) = forbidden_field c name
field_special c target = false

abbrev pub method_lines : Context → ℕ → Function → List ℕ
method_lines c line (x.Defined name params result body) =
    at line (forbidden_method c name || signature_special c params result) ++ body_lines c (x.Defined name params result body)

-- in a class body
abbrev pub member_lines : Context → Statement → List ℕ
member_lines c (x.On line (x.Annotate t kind value)) = at line (field_special c t || (special c typed kind || maybe_special c plain value))
member_lines c (x.On line (x.Def f)) = method_lines c line f
member_lines c other = []

abbrev pub within_class : Context → ClassDef → List ℕ
within_class c (x.Classed name base body) = flat_map (member_lines (in_class_body c)) (of_scope body)

-- in what a statement of the module defines
abbrev pub within_lines : Context → Kind → List ℕ
within_lines c (x.Def f) = body_lines c f
within_lines c (x.Class class) = within_class c class
within_lines c other = []

abbrev pub module_lines : Context → Statement → List ℕ
module_lines c (x.On line kind) = own_lines c (x.On line kind) ++ within_lines c kind

-- the lines of such faults in a module, in its functions and in its classes; defs and classes stand in no function
abbrev pub special_lines : Context → Statements → List ℕ
special_lines c body = flat_map (module_lines c) (of_scope body)
