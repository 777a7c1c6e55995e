-- The code of `def`, of class statements and of imports.
use Rattle.std.specs.Prelude.{ℕ, suc, ◌+◌, if◌then◌else◌, List, [], ◌∷◌, ◌++◌, Option, Some, None}
use Rattle.std.specs.List.{flat_map}
use Rattle.py_tree.specs.Syntax as x
use Rattle.py_tree.specs.Syntax.{Text, Expression, Param, Kind, Statements, Function, ClassDef}
use Rattle.py_tree.specs.declared.statement.Import.{Import}
use Rattle.symbols.specs.Bindings.{alias_or, is_marker_import}
use Rattle.py_meaning.specs.Calls.{params_of}
use Rattle.py_meaning.specs.Imports.{binds_nothing}
use Rattle.py_meaning.specs.Modules.{written_name}
use Rattle.bytecode.specs.declared.instr.Cell.{Cell}
use Rattle.bytecode.specs.declared.instr.Handler.{Handler}
use Rattle.bytecode.specs.declared.instr.Instr.TheVariants as i
use Rattle.compile_plain.specs.Names.{Names, variable_of, line_in, function_place, class_place}
use Rattle.compile_plain.specs.Cells.{cell}
use Rattle.compile_plain.specs.Expressions.{expr_end, expr_code}
use Rattle.compile_plain.specs.Assignments.{store}

-- ---- default values

abbrev pub default_end : Names → ℕ → Option Expression → ℕ
default_end names pc None = pc
default_end names pc (Some e) = expr_end names pc e + 1

abbrev pub default_code : Names → Handler → ℕ → ℕ → ℕ → Option Expression → List Cell
default_code names h function n pc None = []
default_code names h function n pc (Some e) = expr_code names h pc e ++ cell h (i.SetDefault function n) ∷ []

abbrev pub defaults_end : Names → ℕ → List Param → ℕ
defaults_end names pc [] = pc
defaults_end names pc (p ∷ ps) = defaults_end names (default_end names pc p.default) ps

-- of the parameters from the n-th on
abbrev pub defaults_code : Names → Handler → ℕ → ℕ → ℕ → List Param → List Cell
defaults_code names h function n pc [] = []
defaults_code names h function n pc (p ∷ ps) =
    default_code names h function n pc p.default ++ defaults_code names h function (suc n) (default_end names pc p.default) ps

abbrev pub own_defaults_end : Names → Option ℕ → ℕ → List Param → ℕ
own_defaults_end names None pc params = pc
own_defaults_end names (Some n) pc params = defaults_end names pc params

abbrev pub own_defaults_code : Names → Handler → Option ℕ → ℕ → List Param → List Cell
own_defaults_code names h None pc params = []
own_defaults_code names h (Some n) pc params = defaults_code names h n 0 pc params

-- ---- `def`

abbrev pub bind_function_end : Option ℕ → ℕ → ℕ
bind_function_end None pc = pc + 1
bind_function_end (Some n) pc = pc + 1 + 1

abbrev pub bind_function_code : Names → Handler → Text → Option ℕ → List Cell
bind_function_code names h name None = cell h (i.Unbind (variable_of names name)) ∷ []
bind_function_code names h name (Some n) = cell h (i.Function n) ∷ (store names h name ∷ [])

abbrev pub def_end : Names → ℕ → Function → ℕ
def_end names pc f =
    let n = function_place names None (written_name f) in
    bind_function_end n (own_defaults_end names n pc (params_of f))

abbrev pub def_code : Names → Handler → ℕ → Function → List Cell
def_code names h pc f =
    let n = function_place names None (written_name f) in
    own_defaults_code names h n pc (params_of f) ++ bind_function_code names h (written_name f) n

-- ---- `class`

abbrev pub member_end : Names → Option ℕ → ℕ → Kind → ℕ
member_end names class pc (x.Def f) = own_defaults_end names (function_place names class (written_name f)) pc (params_of f)
member_end names class pc other = pc

abbrev pub member_code : Names → Handler → Option ℕ → ℕ → Kind → List Cell
member_code names h class pc (x.Def f) = own_defaults_code names h (function_place names class (written_name f)) pc (params_of f)
member_code names h class pc other = []

abbrev pub members_end : Names → Option ℕ → ℕ → Statements → ℕ
members_end names class pc x.end_of_statements = pc
members_end names class pc (x.more_statements (x.On line kind) rest) = members_end names class (member_end names class (pc + 1) kind) rest

abbrev pub members_code : Names → Handler → Option ℕ → ℕ → Statements → List Cell
members_code names h class pc x.end_of_statements = []
members_code names h class pc (x.more_statements (x.On line kind) rest) =
    cell h (i.Begin (line_in names.locals line)) ∷ (member_code names h class (pc + 1) kind ++ members_code names h class (member_end names class (pc + 1) kind) rest)

abbrev pub base_end : Names → ℕ → Option Expression → ℕ
base_end names pc None = pc
base_end names pc (Some e) = expr_end names pc e + 1

abbrev pub base_code : Names → Handler → ℕ → Option Expression → List Cell
base_code names h pc None = []
base_code names h pc (Some e) = expr_code names h pc e ++ cell h i.DropTop ∷ []

abbrev pub bind_class_code : Names → Handler → Text → Option ℕ → List Cell
bind_class_code names h name None = cell h (i.Unbind (variable_of names name)) ∷ []
bind_class_code names h name (Some n) = cell h (i.Class n) ∷ (store names h name ∷ [])

abbrev pub class_end : Names → ℕ → ClassDef → ℕ
class_end names pc (x.Classed name base body) =
    let n = class_place names name in
    bind_function_end n (members_end names n (base_end names pc base) body)

abbrev pub class_code : Names → Handler → ℕ → ClassDef → List Cell
class_code names h pc (x.Classed name base body) =
    let n = class_place names name in
    base_code names h pc base ++ (members_code names h n (base_end names pc base) body ++ bind_class_code names h name n)

-- ---- imports

abbrev pub import_code : Names → Handler → Import → List Cell
import_code names h import = if is_marker_import import then [] else cell h (i.ImportModule import.name (variable_of names (alias_or import.alias import.name))) ∷ []

abbrev pub import_end : ℕ → Import → ℕ
import_end pc import = if is_marker_import import then pc else pc + 1

abbrev pub imports_end : ℕ → List Import → ℕ
imports_end pc [] = pc
imports_end pc (import ∷ imports) = imports_end (import_end pc import) imports

abbrev pub imports_code : Names → Handler → List Import → List Cell
imports_code names h imports = flat_map (import_code names h) imports

abbrev pub member_import_code : Names → Handler → Text → Import → List Cell
member_import_code names h from import =
    if binds_nothing from then []
    else cell h (i.ImportMember (record { «module» = from; name = import.name; variable = variable_of names (alias_or import.alias import.name) })) ∷ []

abbrev pub member_imports_end : ℕ → Text → List Import → ℕ
member_imports_end pc from [] = pc
member_imports_end pc from (import ∷ imports) = member_imports_end (if binds_nothing from then pc else pc + 1) from imports

abbrev pub member_imports_code : Names → Handler → Text → List Import → List Cell
member_imports_code names h from imports = flat_map (member_import_code names h from) imports
