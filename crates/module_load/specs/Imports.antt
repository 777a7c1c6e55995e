-- The faults of the imports in a module's top part, from what is decided of the modules that they name (Python reference: the import
-- statement).
use Rattle.std.specs.Prelude.{ℕ, Bool, true, false, ◌&&◌, if◌then◌else◌, List, [], ◌∷◌, codes, Option, Some, None, is_some, is_none}
use Rattle.std.specs.List.{flat_map}
use Rattle.std.specs.Str.{bytes_eq}
use Rattle.py_tree.specs.Syntax as x
use Rattle.py_tree.specs.Syntax.{Text, Kind, Statement, Statements}
use Rattle.py_tree.specs.TopPart.{top_imports}
use Rattle.py_tree.specs.declared.code.Code.TheVariants.{NoSuchModule, RefusedImport, NoSuchName, PlainImport}
use Rattle.py_tree.specs.declared.fault.Fault.{Fault}
use Rattle.py_tree.specs.declared.statement.Import.{Import}
use Rattle.symbols.specs.ModuleKinds.{module_kind}
use Rattle.symbols.specs.Words.{among, own_static_name, typing_name}
use Rattle.symbols.specs.declared.resolved.ModuleKind.{ModuleKind}
use Rattle.symbols.specs.declared.resolved.ModuleKind.TheVariants as kind
use Rattle.module_load.specs.declared.globals.ModuleGlobal.{ModuleGlobal}
use Rattle.module_load.specs.declared.verdict.Verdict.{Verdict}
use Rattle.module_load.specs.declared.verdict.Verdict.TheVariants as verdict
use Rattle.module_load.specs.Decisions.{Decisions, global_named}
use Rattle.module_load.specs.Markers.{is_marker_alone}
use Rattle.module_load.specs.Preparing.{fault}

abbrev pub unless : Bool → Fault → List Fault
unless true f = []
unless false f = f ∷ []

-- ---- a module of the folder that a statement names

-- the names that none of these globals has
abbrev pub missing : ℕ → List ModuleGlobal → List Import → List Fault
missing line globals is = flat_map (λ i. unless (is_some (global_named i.name globals)) (fault line NoSuchName)) is

-- taking these names from it
abbrev pub taking_faults : ℕ → List Import → Option Verdict → List Fault
taking_faults line is None = fault line NoSuchModule ∷ []
taking_faults line is (Some (verdict.Published globals)) = missing line globals is
taking_faults line is (Some (verdict.Refused f)) = fault line RefusedImport ∷ []
taking_faults line is (Some verdict.Plain) = fault line PlainImport ∷ []

-- ---- `import NAME as NAME, ..`

-- the names to which imports give a meaning of their own, and that no module of a folder has
abbrev pub reserved : List Text
reserved = codes "__strict__" ∷ codes "__static__" ∷ codes "__host__" ∷ codes "__future__" ∷ codes "typing" ∷ []

abbrev pub module_faults : Decisions → ℕ → Text → List Fault
module_faults known line name = if among name reserved then fault line NoSuchModule ∷ [] else taking_faults line [] (known name)

abbrev pub modules_faults : Decisions → ℕ → List Import → List Fault
modules_faults known line is = if is_marker_alone is then [] else flat_map (λ i. module_faults known line i.name) is

-- ---- `from NAME import NAME as NAME, ..`

-- `annotations` alone
abbrev pub is_annotations : List Import → Bool
is_annotations (i ∷ []) = is_none i.alias && bytes_eq i.name (codes "annotations")
is_annotations is = false

abbrev pub typing_faults : ℕ → List Import → List Fault
typing_faults line is = flat_map (λ i. unless (is_some (typing_name i.name)) (fault line NoSuchName)) is

-- a strict module has none of these names
abbrev pub is_own_static : ModuleKind → Text → Bool
is_own_static kind.Strict name = false
is_own_static kind.Static name = is_some (own_static_name name)

abbrev pub static_faults : ModuleKind → ℕ → List Import → List Fault
static_faults importing line is = flat_map (λ i. unless (is_own_static importing i.name) (fault line NoSuchName)) is

-- `importing` is the kind of the module in which the statement stands
abbrev pub members_faults : Decisions → ModuleKind → ℕ → Text → List Import → List Fault
members_faults known importing line from is =
    if bytes_eq from (codes "__future__") then unless (is_annotations is) (fault line NoSuchModule)
    else (if bytes_eq from (codes "typing") then typing_faults line is
    else (if bytes_eq from (codes "__static__") then static_faults importing line is
    else (if bytes_eq from (codes "__host__") then []
    else (if bytes_eq from (codes "__strict__") then fault line NoSuchModule ∷ []
    else taking_faults line is (known from)))))

-- ---- the top part

abbrev pub kind_faults : Decisions → ModuleKind → ℕ → Kind → List Fault
kind_faults known importing line (x.Imports is) = modules_faults known line is
kind_faults known importing line (x.From from is) = members_faults known importing line from is
kind_faults known importing line kind = []

abbrev pub statement_faults : Decisions → ModuleKind → Statement → List Fault
statement_faults known importing (x.On line kind) = kind_faults known importing line kind

abbrev pub import_faults : Decisions → Statements → List Fault
import_faults known body = flat_map (statement_faults known (module_kind body)) (top_imports body)
