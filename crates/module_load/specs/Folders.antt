-- The sources of a folder: what the file of each module is by itself, and which modules import which.
use Rattle.std.specs.Prelude.{◌≡◌, ℕ, List, [], length, map, Option, Some, slice_get, string_bytes}
use Rattle.std.specs.List.{filter_map, position}
use Rattle.std.specs.Option.{option_map}
use Rattle.std.specs.Str.{bytes_eq, chars}
use Rattle.py_tree.specs.Syntax.{Text}
use Rattle.import_graph.specs.declared.imports.ImportRow.{ImportRow}
use Rattle.import_graph.specs.declared.rows.DirectImport.{DirectImport}
use Rattle.import_graph.specs.Graph.{Rows}
use Rattle.import_graph.specs.Imports.{import_rows}
use Rattle.registry_core.specs.declared.sources.Sources.{Sources}
use Rattle.module_load.specs.declared.folder.ModuleFile.{ModuleFile}
use Rattle.module_load.specs.declared.source.Source.{Source}
use Rattle.module_load.specs.Sources.{State, plain, faulty, tree, state_of}
use Rattle.module_load.specs.Preparing.{Prepares}

-- the name of a module, and the bytes of its file
abbrev pub File : Type 0
File = List ℕ × List ℕ

abbrev pub file_of : ModuleFile → File
file_of file = (string_bytes file.name, file.bytes.items)

-- an import that names one of these modules: its line and the module's number
abbrev pub direct_import : List Text → ImportRow → Option DirectImport
direct_import names row = option_map (λ (m : ℕ). record { line = row.line; «module» = m }) (position (bytes_eq row.module) names)

-- those of a module's top part, in the order of the text
abbrev pub direct_imports : List Text → State → List DirectImport
direct_imports names plain = []
direct_imports names (faulty f) = []
direct_imports names (tree body) = filter_map (direct_import names) (import_rows body)

abbrev pub names_of : List Source → List Text
names_of list = map (λ (s : Source). s.name) list

abbrev pub states_of : List Source → List State
states_of list = map (λ (s : Source). state_of s.state) list

-- which of these modules import which
abbrev pub graph_of : List Source → Rows
graph_of list = map (direct_imports (names_of list)) (states_of list)

-- what a file is by itself
pub record IsSource (file : File) (source : Source) : Type 0 where
  pub name : source.name ≡ chars file.0
  pub state : Prepares file.1 (state_of source.state)

-- what each of these files is
pub record AreSources (files : List File) (list : List Source) : Type 0 where
  pub as_many : length list ≡ length files
  pub each : (k : ℕ) (file : File) (source : Source) → slice_get files k ≡ Some file → slice_get list k ≡ Some source → IsSource file source

pub record IsSources (files : List File) (all : Sources Source) : Type 0 where
  pub list : AreSources files all.list
  pub graph : all.graph ≡ graph_of all.list

-- the sources of the same files have the same names and states, and so the same graph
abbrev pub OneFolder : Type 0
OneFolder = (files : List File) (a b : Sources Source) → IsSources files a → IsSources files b
    → (names_of a.list ≡ names_of b.list) × (states_of a.list ≡ states_of b.list) × (a.graph ≡ b.graph)
