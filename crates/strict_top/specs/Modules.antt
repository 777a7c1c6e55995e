-- The modules of a folder.
use Rattle.std.specs.Prelude.{◌≡◌, ℕ, ◌-◌, ◌&&◌, ◌||◌, nat_eq, nat_lt, Bool, not, if◌then◌else◌, List, ◌++◌, length, take, codes, chars, Option, Some, None, sum_by}
use Rattle.std.specs.List.{ends_with, list_any, filter_map}
use Rattle.std.specs.Option.{option_map}
use Rattle.std.specs.Ordering.{nat_cmp}
use Rattle.std.specs.declared.cmp.Ordering.{Ordering}
use Rattle.std.specs.Cmp.Lexicographic.{slice_cmp}
use Rattle.std.specs.Str.{bytes_eq}
use Rattle.std.specs.FinMap.{entries, from_entries, get}
use Rattle.outside.specs.Files.{Files, Told, Untold, Missing, Holds, front_of}
use Rattle.py_lexer.specs.Names.{is_identifier, is_keyword}
use Rattle.module_load.specs.Folders.{File}
use Rattle.module_load.specs.Imports.{reserved}

-- Names that an import gives a meaning of its own are no module's.
abbrev pub is_module_name : List ℕ → Bool
is_module_name name = is_identifier (chars name) && not (is_keyword name) && not (list_any (bytes_eq name) reserved)

-- The name of the module that lies in the file of that name, `NAME.py`, or none where it is no module's.
abbrev pub module_in : List ℕ → Option (List ℕ)
module_in file =
    let name = take (length file - 3) file in
    if ends_with nat_eq file (codes ".py") && is_module_name name then Some name else None

-- The module that lies in a file, by its name and the front of its bytes.
abbrev pub module_of : List ℕ × List ℕ → Option File
module_of file = option_map (λ name. (name, front_of file.1)) (module_in file.0)

-- The modules of a directory, each with its bytes, in the order of the bytes of their names.
abbrev pub modules : Files → List File
modules files = entries (from_entries {R = slice_cmp nat_cmp} (filter_map module_of (entries files)))

-- The module lies in the directory: its name makes that of a file, which has these bytes at its front.
pub record LiesIn (files : Files) (file : File) : Type 0 where
  pub is_module : module_in (file.0 ++ codes ".py") ≡ Some file.0
  pub is_front : option_map front_of (get files (file.0 ++ codes ".py")) ≡ Some file.1

-- The order of the modules.
abbrev pub file_cmp : File → File → Ordering
file_cmp a b = slice_cmp nat_cmp a.0 b.0

-- The modules are those of the directory, where it is told.
abbrev pub AreModules : Told → List File → Type 0
AreModules Untold files = Unit {0}
AreModules Missing files = ⊥
AreModules (Holds told) files = files ≡ modules told

-- The most modules of a folder, and the most bytes of all of them.
abbrev pub greatest_count : ℕ
greatest_count = 1024

abbrev pub greatest_size : ℕ
greatest_size = 33554432

abbrev pub size_of : List File → ℕ
size_of files = sum_by (λ (file : File). length file.1) files

abbrev pub is_too_large : List File → Bool
is_too_large files = nat_lt greatest_count (length files) || nat_lt greatest_size (size_of files)
