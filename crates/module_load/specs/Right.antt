-- What is right to decide of each module, as a function of plain data: of the sources, and of what is decided of the modules that it
-- needs. The phases stand in their order, and the first that finds something decides.
use Rattle.std.specs.Prelude.{◌≡◌, ◌↔◌, ℕ, ◌==◌, Bool, true, false, List, [], ◌∷◌, Option, Some, None, slice_get}
use Rattle.std.specs.List.{find, position}
use Rattle.std.specs.Option.{option_map}
use Rattle.std.specs.Str.{bytes_eq}
use Rattle.py_tree.specs.Syntax.{Text, Statements}
use Rattle.py_tree.specs.declared.code.Code.TheVariants.{ImportCycle}
use Rattle.py_tree.specs.declared.fault.Fault.{Fault}
use Rattle.import_graph.specs.declared.imports.ImportRow.{ImportRow}
use Rattle.import_graph.specs.Closure.{cyclic_line, need_of}
use Rattle.import_graph.specs.Graph.{IsCyclic}
use Rattle.import_graph.specs.Imports.{import_rows}
use Rattle.import_graph.specs.World.{with_each}
use Rattle.symbols.specs.Bindings.{globals}
use Rattle.symbols.specs.Faults.{faults}
use Rattle.registry_core.specs.declared.sources.Sources.{Sources}
use Rattle.module_load.specs.declared.source.Source.{Source}
use Rattle.module_load.specs.declared.verdict.Verdict.{Verdict}
use Rattle.module_load.specs.declared.verdict.Verdict.TheVariants.{Published, Refused, Plain}
use Rattle.module_load.specs.Bodies.{spent, unbuilt}
use Rattle.module_load.specs.Decisions.{Decisions}
use Rattle.module_load.specs.FirstOnes.{earlier}
use Rattle.module_load.specs.Folders.{File, IsSources, names_of}
use Rattle.module_load.specs.Imports.{import_faults}
use Rattle.module_load.specs.Outers.{outer, outer_bindings}
use Rattle.module_load.specs.Preparing.{fault}
use Rattle.module_load.specs.RightDecisions.{IsRight, held, module_names}
use Rattle.module_load.specs.Sources.{State, plain, faulty, tree, state_of}

-- ---- a tree

-- the least line, and on one line the least code
abbrev pub first_fault : List Fault → Option Fault
first_fault [] = None
first_fault (f ∷ rest) = earlier (Some f) (first_fault rest)

-- refused for a fault, where there is one
abbrev pub unless_refused : Option Fault → Verdict → Verdict
unless_refused (Some f) later = Refused f
unless_refused None later = later

-- imports, names, the body, its fuel
abbrev pub right_of_tree : Decisions → Text → ℕ → Statements → Verdict
right_of_tree known name number body =
    unless_refused (first_fault (import_faults known body)) (
    unless_refused (first_fault (faults (outer known name number body) body)) (
    unless_refused (unbuilt body) (
    unless_refused (spent body) (
    Published (held (module_names (outer_bindings known body)) (globals body))))))

-- ---- what is known of other modules

-- what the list has of a module
abbrev pub decided : List (ℕ × Verdict) → ℕ → Option Verdict
decided list m = option_map (λ (row : ℕ × Verdict). row.1) (find (λ (row : ℕ × Verdict). row.0 == m) list)

abbrev pub decided_of : List (ℕ × Verdict) → Option ℕ → Option Verdict
decided_of list None = None
decided_of list (Some m) = decided list m

-- by the modules' names: none where no module has the name
abbrev pub known_in : List Text → List (ℕ × Verdict) → Decisions
known_in names list name = decided_of list (position (bytes_eq name) names)

-- ---- a module

abbrev pub right_of_state : Decisions → Text → ℕ → State → Verdict
right_of_state known name number plain = Plain
right_of_state known name number (faulty f) = Refused f
right_of_state known name number (tree body) = right_of_tree known name number body

-- behind the last module there is nothing to decide
abbrev pub right_of_source : Decisions → ℕ → Option Source → Verdict
right_of_source known m None = Plain
right_of_source known m (Some s) = right_of_state known s.name m (state_of s.state)

-- refused for a cycle at that line, where there is one
abbrev pub unless_cyclic : Option ℕ → Verdict → Verdict
unless_cyclic (Some line) other = Refused (fault line ImportCycle)
unless_cyclic None other = other

abbrev pub right : Sources Source → ℕ → List (ℕ × Verdict) → Verdict
right all m list = unless_cyclic (cyclic_line all.graph m) (right_of_source (known_in (names_of all.list) list) m (slice_get all.list m))

abbrev pub is_refused : Verdict → Bool
is_refused (Published globals) = false
is_refused (Refused f) = true
is_refused Plain = false

-- ---- laws

-- of a tree it is what the relation has, and nothing else
abbrev pub RightIsRight : Type 0
RightIsRight = (known : Decisions) (name : Text) (number : ℕ) (body : Statements) (verdict : Verdict) → IsRight known name number body verdict ↔ (verdict ≡ right_of_tree known name number body)

-- it depends on the files alone
abbrev pub RightOfFiles : Type 0
RightOfFiles = (files : List File) (a b : Sources Source) → IsSources files a → IsSources files b → (m : ℕ) (list : List (ℕ × Verdict)) → right a m list ≡ right b m list

-- over the verdicts of the need of a module on no cycle, what is known under each name of its top part is the verdict of the module of
-- that name, and nothing exactly where no module has it
abbrev pub KnownExactly : Type 0
KnownExactly = (files : List File) (all : Sources Source) (verdict : ℕ → Verdict) (m : ℕ) (source : Source) (body : Statements) (k : ℕ) (row : ImportRow)
    → IsSources files all
    → ¬ IsCyclic all.graph m
    → slice_get all.list m ≡ Some source
    → state_of source.state ≡ tree body
    → slice_get (import_rows body) k ≡ Some row
    → known_in (names_of all.list) (with_each verdict (need_of all.graph m)) row.module ≡ option_map verdict (position (bytes_eq row.module) (names_of all.list))
