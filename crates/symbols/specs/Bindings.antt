-- The bindings of a scope, in the order of the text.
use Rattle.std.specs.Prelude.{ℕ, Bool, not, ◌&&◌, if◌then◌else◌, List, [], ◌∷◌, ◌++◌, map, codes, Option, Some, None, is_none}
use Rattle.std.specs.List.{filter, flat_map}
use Rattle.std.specs.Str.{bytes_eq}
use Rattle.py_tree.specs.Syntax as x
use Rattle.py_tree.specs.Syntax.{Text, Param, Target, Kind, Statements, Branches, Clauses, Function}
use Rattle.py_tree.specs.declared.statement.Import.{Import}
use Rattle.symbols.specs.declared.binding.BindingKind.{BindingKind}
use Rattle.symbols.specs.declared.binding.BindingKind.TheVariants as by
use Rattle.symbols.specs.declared.binding.Binding.{Binding}
use Rattle.symbols.specs.Words.{is_marker, static_name}

abbrev pub bound : ℕ → BindingKind → Text → Binding
bound line kind name = record { name = name; line = line; kind = kind; static_name = None }

-- ---- imports

abbrev pub alias_or : Option Text → Text → Text
alias_or None name = name
alias_or (Some alias) name = alias

abbrev pub is_marker_import : Import → Bool
is_marker_import i = is_none i.alias && is_marker i.name

-- a marker binds nothing
abbrev pub module_binding : ℕ → Import → List Binding
module_binding line i = if is_marker_import i then [] else bound line by.Import (alias_or i.alias i.name) ∷ []

abbrev pub member_binding : ℕ → Text → Import → Binding
member_binding line from i = record { name = alias_or i.alias i.name; line = line; kind = by.Import; static_name = static_name from i.name }

-- `from __future__` binds nothing
abbrev pub member_bindings : ℕ → Text → List Import → List Binding
member_bindings line from is = if bytes_eq from (codes "__future__") then [] else map (member_binding line from) is

-- ---- statements

-- an attribute or an item is no name
abbrev pub target_bindings : ℕ → Target → List Binding
target_bindings line (x.ToName name) = bound line by.Other name ∷ []
target_bindings line (x.ToNames names) = map (bound line by.Other) names
target_bindings line (x.ToAttr e name) = []
target_bindings line (x.ToIndex e i) = []

abbrev pub maybe_bound : ℕ → Option Text → List Binding
maybe_bound line None = []
maybe_bound line (Some name) = bound line by.Other name ∷ []

-- of the statements of a block and of the blocks in it; the bodies of defs and classes are other scopes
abbrev mutual
  pub bindings : Statements → List Binding
  bindings x.end_of_statements = []
  bindings (x.more_statements (x.On line kind) rest) = kind_bindings line kind ++ bindings rest

  pub kind_bindings : ℕ → Kind → List Binding
  kind_bindings line (x.Imports is) = flat_map (module_binding line) is
  kind_bindings line (x.From from is) = member_bindings line from is
  kind_bindings line (x.Assign t e) = target_bindings line t
  kind_bindings line (x.Annotate t kind value) = target_bindings line t
  kind_bindings line (x.Augment t op e) = target_bindings line t
  kind_bindings line (x.If tested orelse) = branches_bindings tested ++ bindings orelse
  kind_bindings line (x.While test body) = bindings body
  kind_bindings line (x.For t e body) = target_bindings line t ++ bindings body
  kind_bindings line (x.Try body handlers) = bindings body ++ clauses_bindings line handlers
  kind_bindings line (x.Def (x.Defined name params result body)) = bound line by.Def name ∷ []
  kind_bindings line (x.Class (x.Classed name base body)) = bound line by.Class name ∷ []
  kind_bindings line _ = []

  pub branches_bindings : Branches → List Binding
  branches_bindings x.end_of_branches = []
  branches_bindings (x.more_branches (x.Tested line test body) rest) = bindings body ++ branches_bindings rest

  -- the name of a clause has the line of its `try`
  pub clauses_bindings : ℕ → Clauses → List Binding
  clauses_bindings line x.end_of_clauses = []
  clauses_bindings line (x.more_clauses (x.Except matches name body) rest) = maybe_bound line name ++ bindings body ++ clauses_bindings line rest

-- ---- names

-- a list in which each stands once, at its first place
abbrev pub first_mentions : List Text → List Text
first_mentions [] = []
first_mentions (name ∷ names) = name ∷ filter (λ other. not (bytes_eq name other)) (first_mentions names)

abbrev pub names_of : List Binding → List Text
names_of bs = map (λ b. b.name) bs

-- a static name is no global
abbrev pub is_global : Binding → Bool
is_global b = is_none b.static_name

abbrev pub globals_in : List Binding → List Text
globals_in bs = first_mentions (names_of (filter is_global bs))

abbrev pub globals : Statements → List Text
globals body = globals_in (bindings body)

abbrev pub param_names : List Param → List Text
param_names params = map (λ p. p.name) params

-- a name bound anywhere in a function is local to it throughout
abbrev pub locals_of : List Param → Statements → List Text
locals_of params body = first_mentions (param_names params ++ names_of (bindings body))

abbrev pub locals : Function → List Text
locals (x.Defined name params result body) = locals_of params body
