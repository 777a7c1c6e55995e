-- What a run on a folder reports, and what each of its answers tells.
use Rattle.std.specs.Prelude.{◌≡◌, ℕ, Bool, true, false, List, Option, Some, None, take}
use Rattle.outside.specs.Bytes.{Appends}
use Rattle.outside.specs.Files.{Told, Untold, Missing, Holds}
use Rattle.registry_core.specs.declared.sources.Sources.{Sources}
use Rattle.module_load.specs.declared.source.Source.{Source}
use Rattle.module_load.specs.Folders.{File, IsSources}
use Rattle.strict_top.specs.declared.status.Status.{Status}
use Rattle.strict_top.specs.declared.status.Status.TheVariants.{FolderFault, SinkFault, OutOfMemory}
use Rattle.strict_top.specs.Modules.{AreModules, is_too_large}
use Rattle.strict_top.specs.Reports.{Report, report_of, judged, bad_words, too_large}
use Rattle.strict_top.specs.Words.{directory_of}

-- The report on the modules of these files: what the files are as sources, and what is right of them.
abbrev pub IsReportOn : List File → Report → Type 0
IsReportOn files report = (all : Sources Source) × IsSources files all × (report ≡ report_of (judged files all))

-- Whether they are too large comes first.
abbrev pub IsReportBy : Bool → List File → Report → Type 0
IsReportBy true files report = report ≡ too_large
IsReportBy false files report = IsReportOn files report

abbrev pub IsReportOf : List File → Report → Type 0
IsReportOf files report = IsReportBy (is_too_large files) files report

-- A report that a run may write: the one on the modules of the directory that the words name, where it is told, and else one on some
-- modules. Words that aren't taken have a report of their own.
abbrev pub IsReportNamed : Option (List ℕ) → (List ℕ → Told) → Report → Type 0
IsReportNamed None told report = report ≡ bad_words
IsReportNamed (Some dir) told report = (files : List File) × AreModules (told dir) files × IsReportOf files report

abbrev pub IsReport : List (List ℕ) → (List ℕ → Told) → Report → Type 0
IsReport words = IsReportNamed (directory_of words)

-- The directory that the words name is told. Words that aren't taken name none.
abbrev pub IsHolding : Told → Type 0
IsHolding Untold = ⊥
IsHolding Missing = ⊥
IsHolding (Holds files) = Unit {0}

abbrev pub IsToldNamed : Option (List ℕ) → (List ℕ → Told) → Type 0
IsToldNamed None told = Unit {0}
IsToldNamed (Some dir) told = IsHolding (told dir)

abbrev pub IsTold : List (List ℕ) → (List ℕ → Told) → Type 0
IsTold words = IsToldNamed (directory_of words)

-- What is told has one report.
abbrev pub OneReport : Type 0
OneReport = (words : List (List ℕ)) (told : List ℕ → Told) (a b : Report) → IsTold words told → IsReport words told a → IsReport words told b → a ≡ b

-- The answers of a run that came to its end.
abbrev pub HasEnded : Status → Type 0
HasEnded FolderFault = ⊥
HasEnded SinkFault = ⊥
HasEnded OutOfMemory = ⊥
HasEnded status = Unit {0}

-- The first bytes of a report of the run were written.
pub record WritesFront (words : List (List ℕ)) (told : List ℕ → Told) (old new : Option (List ℕ)) : Type 0 where
  pub report : Report
  pub is_report : IsReport words told report
  pub count : ℕ
  pub written : Appends old new (take count report.bytes)

-- A report of the run was written.
pub record WritesReport (words : List (List ℕ)) (told : List ℕ → Told) (old new : Option (List ℕ)) (status : Status) : Type 0 where
  pub report : Report
  pub is_report : IsReport words told report
  pub written : Appends old new report.bytes
  pub answered : status ≡ report.status
