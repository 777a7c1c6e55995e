-- What is told has one report.
use Rattle.std.proofs.Common.{◌≡◌, ℕ, Bool, true, false, List, Option, Some, None, sym, ap, ◌∙◌, subst}
use Rattle.outside.specs.Files.{Told, Untold, Missing, Holds}
use Rattle.import_graph.specs.Graph.{Rows}
use Rattle.import_graph.specs.World.{rules_over, world}
use Rattle.registry_core.specs.declared.sources.Sources.{Sources}
use Rattle.module_load.specs.declared.source.Source.{Source}
use Rattle.module_load.specs.declared.verdict.Verdict.{Verdict}
use Rattle.module_load.specs.Folders.{File, IsSources}
use Rattle.module_load.specs.Right.{is_refused}
use Rattle.module_load.proofs.Folders.{one_folder}
use Rattle.module_load.proofs.RightFiles.{right_of_files}
use Rattle.strict_top.specs.Modules.{AreModules, is_too_large, modules}
use Rattle.strict_top.specs.Reports.{Report, judged_from, report_of, verdict_of}
use Rattle.strict_top.specs.Runs.{IsHolding, IsReportBy, IsReportNamed, IsReportOf, IsReportOn, IsToldNamed, OneReport}
use Rattle.strict_top.specs.Words.{directory_of}

-- what is right depends on the files alone
one_world : (files : List File) (a b : Sources Source) → IsSources files a → IsSources files b → verdict_of a ≡ verdict_of b
one_world files a b of_a of_b =
    ap (λ (p : Rows × (ℕ → List (ℕ × Verdict) → Verdict)). world (rules_over p.0 p.1 is_refused))
    (λ i. ((one_folder files a b of_a of_b).2 i, λ m list. right_of_files files a b of_a of_b m list i))

one_report_on : (files : List File) (a b : Report) → IsReportOn files a → IsReportOn files b → a ≡ b
one_report_on files a b of_a of_b =
    of_a.2 ∙ ap (λ (verdict : ℕ → Verdict). report_of (judged_from verdict 0 files)) (one_world files of_a.0 of_b.0 of_a.1 of_b.1) ∙ sym of_b.2

one_report_by : (too_large : Bool) (files : List File) (a b : Report) → IsReportBy too_large files a → IsReportBy too_large files b → a ≡ b
one_report_by true files a b of_a of_b = of_a ∙ sym of_b
one_report_by false files a b of_a of_b = one_report_on files a b of_a of_b

one_report_told : (told : Told) (a b : Report) → IsHolding told → (files : List File) × AreModules told files × IsReportOf files a
    → (files : List File) × AreModules told files × IsReportOf files b → a ≡ b
one_report_told Untold a b holding of_a of_b = absurd holding
one_report_told Missing a b holding of_a of_b = absurd holding
one_report_told (Holds files) a b holding of_a of_b =
    one_report_by (is_too_large (modules files)) (modules files) a b
    (subst (λ (list : List File). IsReportOf list a) of_a.1 of_a.2)
    (subst (λ (list : List File). IsReportOf list b) of_b.1 of_b.2)

one_report_named : (dir : Option (List ℕ)) (told : List ℕ → Told) (a b : Report) → IsToldNamed dir told
    → IsReportNamed dir told a → IsReportNamed dir told b → a ≡ b
one_report_named None told a b holding of_a of_b = of_a ∙ sym of_b
one_report_named (Some dir) told a b holding of_a of_b = one_report_told (told dir) a b holding of_a of_b

pub one_report : OneReport
one_report words = one_report_named (directory_of words)
