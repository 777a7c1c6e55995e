-- No definitions of the loader: what the private steps of a run promise one another.
use Rattle.std.specs.Prelude.{◌≡◌, ◌<◌, ◌≤◌, ℕ, true, false, List, [], ◌∷◌, ◌++◌, length, codes, map, Option, take}
use Rattle.std.specs.List.{AllByRecursion}
use Rattle.outside.specs.Bytes.{Appends}
use Rattle.outside.specs.Faults.{HasRisen}
use Rattle.outside.specs.Files.{Told, IsReading}
use Rattle.registry_core.specs.declared.sources.Sources.{Sources}
use Rattle.module_load.specs.declared.source.Source.{Source}
use Rattle.module_load.specs.declared.verdict.Verdict.{Verdict}
use Rattle.module_load.specs.Folders.{File, IsSources, file_of}
use Rattle.strict_top.specs.declared.reading.Found.{Found}
use Rattle.strict_top.specs.declared.reading.Found.TheVariants as found
use Rattle.strict_top.specs.declared.status.Status.{Status}
use Rattle.strict_top.specs.declared.status.Status.TheVariants.{FolderFault, SinkFault, OutOfMemory}
use Rattle.strict_top.specs.Modules.{AreModules, is_too_large, greatest_size, size_of}
use Rattle.strict_top.specs.Reports.{Report, Judged, judged}

-- What a reading of the module's file gives.
abbrev pub IsFileIn : Told → File → Type 0
IsFileIn told file = IsReading told (file.0 ++ codes ".py") file.1

-- The modules of these names were read, in this order.
pub record AreRead (told : Told) (names : List (List ℕ)) (files : List File) : Type 0 where
  pub named : map (λ (file : File). file.0) files ≡ names
  pub each : AllByRecursion (IsFileIn told) files

-- What reading the modules of these names gives: all of them, or where the first ones already have too many bytes, no more.
abbrev pub IsReadOf : Told → List (List ℕ) → Found → Type 0
IsReadOf told names (found.Modules files) = AreRead told names (map file_of files.items) × (size_of (map file_of files.items) ≤ greatest_size)
IsReadOf told names found.TooLarge = (n : ℕ) × (files : List File) × AreRead told (take n names) files × (greatest_size < size_of files)

-- What was found in a directory.
abbrev pub IsFound : Told → Found → Type 0
IsFound told (found.Modules files) = AreModules told (map file_of files.items) × (is_too_large (map file_of files.items) ≡ false)
IsFound told found.TooLarge = (files : List File) × AreModules told files × (is_too_large files ≡ true)

-- Modules with verdicts, side by side.
abbrev pub paired : List File → List Verdict → List Judged
paired [] verdicts = []
paired (file ∷ files) [] = []
paired (file ∷ files) (verdict ∷ verdicts) = (file.0, verdict) ∷ paired files verdicts

-- The modules of these files have these right verdicts.
pub record AreDecided (files : List File) (verdicts : List Verdict) : Type 0 where
  pub all : Sources Source
  pub sources : IsSources files all
  pub as_many : length verdicts ≡ length files
  pub right : paired files verdicts ≡ judged files all

-- What is done with a report, by the answer: it is written whole and its status answered, or its first bytes are, and
-- the count of faults tells why.
abbrev pub Writes : Report → Option (List ℕ) → Option (List ℕ) → ℕ → ℕ → Status → Type 0
Writes report old new before now FolderFault = ⊥
Writes report old new before now SinkFault = ((n : ℕ) × Appends old new (take n report.bytes)) × HasRisen before now
Writes report old new before now OutOfMemory = ((n : ℕ) × Appends old new (take n report.bytes)) × (now ≡ before)
Writes report old new before now status = Appends old new report.bytes × (status ≡ report.status) × (now ≡ before)
