-- What is told has a report.
use Rattle.std.proofs.Common.{ℕ, Bool, true, false, List, Option, Some, None, refl}
use Rattle.outside.specs.Files.{Told, Untold, Missing, Holds}
use Rattle.py_lexer.specs.EveryText.{HasSome}
use Rattle.module_load.specs.Folders.{File}
use Rattle.module_load.proofs.SomeSources.{some_sources}
use Rattle.strict_top.specs.Modules.{AreModules, is_too_large, modules}
use Rattle.strict_top.specs.Reports.{report_of, judged, bad_words, too_large}
use Rattle.strict_top.specs.Runs.{IsHolding, IsReportBy, IsReportNamed, IsReportOf, IsReportOn, IsToldNamed}
use Rattle.strict_top.specs.EveryReport.{EveryReport}
use Rattle.strict_top.specs.Words.{directory_of}

some_report_on : (files : List File) → HasSome (IsReportOn files)
some_report_on files none = some_sources files (λ all is. none (report_of (judged files all)) (all, is, refl))

some_report_by : (is_large : Bool) (files : List File) → HasSome (IsReportBy is_large files)
some_report_by true files none = none too_large refl
some_report_by false files none = some_report_on files none

some_report_told : (told : Told) → IsHolding told → HasSome (λ report. (files : List File) × AreModules told files × IsReportOf files report)
some_report_told Untold holding none = absurd holding
some_report_told Missing holding none = absurd holding
some_report_told (Holds files) holding none = some_report_by (is_too_large (modules files)) (modules files) (λ report is. none report (modules files, refl, is))

some_report_named : (dir : Option (List ℕ)) (told : List ℕ → Told) → IsToldNamed dir told → HasSome (IsReportNamed dir told)
some_report_named None told holding none = none bad_words refl
some_report_named (Some dir) told holding none = some_report_told (told dir) holding none

pub some_report : EveryReport
some_report words = some_report_named (directory_of words)
