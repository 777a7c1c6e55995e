-- What the answers of a run tell, from what was done with its report.
use Rattle.std.specs.Prelude.{if◌then◌else◌, ◌↔◌}
use Rattle.std.proofs.Common.{◌≡◌, ◌≢◌, ◌∙◌, Bool, ℕ, true, false, Option, Some, None, List, map, refl, sym, ap, subst, take}
use Rattle.outside.specs.Bytes.{Appends}
use Rattle.outside.specs.Faults.{HasRisen}
use Rattle.outside.specs.Files.{Told}
use Rattle.module_load.specs.declared.folder.ModuleFile.{ModuleFile}
use Rattle.module_load.specs.declared.verdict.Verdict.{Verdict}
use Rattle.module_load.specs.Folders.{File, file_of}
use Rattle.strict_top.specs.declared.status.Status.{Status}
use Rattle.strict_top.specs.declared.status.Status.TheVariants.{Done, Raised, Refused, BadWords, FolderFault, SinkFault, OutOfMemory, TooLarge}
use Rattle.strict_top.specs.Modules.{AreModules, is_too_large}
use Rattle.strict_top.specs.Reports.{Report, bad_words, report_of, too_large}
use Rattle.strict_top.specs.Words.{directory_of}
use Rattle.strict_top.specs.Runs.{HasEnded, IsReport, IsReportBy, IsReportNamed, IsTold, WritesFront, WritesReport}
use Rattle.strict_top.specs.Steps.{AreDecided, Writes, paired}
use Rattle.strict_top.proofs.OneReport.{one_report}

-- the report of words that aren't taken
pub report_of_bad_words : (words : List (List ℕ)) (told : List ℕ → Told) → None ≡ directory_of words → IsReport words told bad_words
report_of_bad_words words told none = subst (λ d. IsReportNamed d told bad_words) none refl

-- the report on a directory that is too large
pub report_of_too_large : (words : List (List ℕ)) (told : List ℕ → Told) (dir : List ℕ) → Some dir ≡ directory_of words →
    (files : List File) × AreModules (told dir) files × (is_too_large files ≡ true) → IsReport words told too_large
report_of_too_large words told dir named found =
    subst (λ d. IsReportNamed d told too_large) named (found.0, found.1, subst (λ b. IsReportBy b found.0 too_large) (sym found.2) refl)

-- the report on the modules of the directory that the words name
pub report_of_modules : (words : List (List ℕ)) (told : List ℕ → Told) (dir : List ℕ) (files : List File) (verdicts : List Verdict) → Some dir ≡ directory_of words →
    AreModules (told dir) files × (is_too_large files ≡ false) → AreDecided files verdicts → IsReport words told (report_of (paired files verdicts))
report_of_modules words told dir files verdicts named found decided =
    let report = report_of (paired files verdicts) in
    subst (λ d. IsReportNamed d told report) named
    (files, found.0, subst (λ b. IsReportBy b files report) (sym found.1) (decided.all, decided.sources, ap report_of decided.right))

-- the same, of modules that were read, shown and decided as slices
pub report_of_read : (words : List (List ℕ)) (told : List ℕ → Told) (dir : List ℕ) (read shown given : List ModuleFile) (verdicts : List Verdict) → Some dir ≡ directory_of words →
    AreModules (told dir) (map file_of read) × (is_too_large (map file_of read) ≡ false) → shown ≡ read → given ≡ read → AreDecided (map file_of given) verdicts →
    IsReport words told (report_of (paired (map file_of shown) verdicts))
report_of_read words told dir read shown given verdicts named found is_shown is_given decided =
    subst (λ (files : List ModuleFile). IsReport words told (report_of (paired (map file_of files) verdicts))) (sym is_shown)
    (report_of_modules words told dir (map file_of read) verdicts named found (subst (λ (files : List ModuleFile). AreDecided (map file_of files) verdicts) is_given decided))

-- what was written of a report was written of each, where the directory is told
pub exactly : (words : List (List ℕ)) (told : List ℕ → Told) (mine report : Report) (old new : Option (List ℕ)) (answer : Status) → IsReport words told mine → IsTold words told → IsReport words told report →
    Appends old new mine.bytes × (answer ≡ mine.status) → Appends old new report.bytes × (answer ≡ report.status)
exactly words told mine report old new answer is_mine holding is_report =
    subst (λ (r : Report). Appends old new r.bytes × (answer ≡ r.status)) (one_report words told mine report holding is_mine is_report)

pub writes_ended : (words : List (List ℕ)) (told : List ℕ → Told) (report : Report) (old new : Option (List ℕ)) (before now : ℕ) (answer : Status) → IsReport words told report → Writes report old new before now answer →
    HasEnded answer → WritesReport words told old new answer × (now ≡ before)
writes_ended words told report old new before now FolderFault is writes ended = absurd ended
writes_ended words told report old new before now SinkFault is writes ended = absurd ended
writes_ended words told report old new before now OutOfMemory is writes ended = absurd ended
writes_ended words told report old new before now Done is writes ended = (record { report = report; is_report = is; written = writes.0; answered = writes.1 }, writes.2)
writes_ended words told report old new before now Raised is writes ended = (record { report = report; is_report = is; written = writes.0; answered = writes.1 }, writes.2)
writes_ended words told report old new before now Refused is writes ended = (record { report = report; is_report = is; written = writes.0; answered = writes.1 }, writes.2)
writes_ended words told report old new before now BadWords is writes ended = (record { report = report; is_report = is; written = writes.0; answered = writes.1 }, writes.2)
writes_ended words told report old new before now TooLarge is writes ended = (record { report = report; is_report = is; written = writes.0; answered = writes.1 }, writes.2)

pub writes_exactly : (report : Report) (old new : Option (List ℕ)) (before now : ℕ) (answer : Status) → Writes report old new before now answer →
    ¬ (HasRisen before now) → answer ≢ OutOfMemory → Appends old new report.bytes × (answer ≡ report.status)
writes_exactly report old new before now FolderFault writes calm found = absurd writes
writes_exactly report old new before now SinkFault writes calm found = absurd (calm writes.1)
writes_exactly report old new before now OutOfMemory writes calm found = absurd (found refl)
writes_exactly report old new before now Done writes calm found = (writes.0, writes.1)
writes_exactly report old new before now Raised writes calm found = (writes.0, writes.1)
writes_exactly report old new before now Refused writes calm found = (writes.0, writes.1)
writes_exactly report old new before now BadWords writes calm found = (writes.0, writes.1)
writes_exactly report old new before now TooLarge writes calm found = (writes.0, writes.1)

front_of_report : (words : List (List ℕ)) (told : List ℕ → Told) (report : Report) (old new : Option (List ℕ)) → IsReport words told report → (n : ℕ) × Appends old new (take n report.bytes) → WritesFront words told old new
front_of_report words told report old new is part = record { report = report; is_report = is; count = part.0; written = part.1 }

pub writes_fault : (words : List (List ℕ)) (told : List ℕ → Told) (report : Report) (old new : Option (List ℕ)) (before now : ℕ) (answer : Status) → IsReport words told report → Writes report old new before now answer →
    answer ≡ SinkFault → HasRisen before now × WritesFront words told old new
writes_fault words told report old new before now answer is writes answered =
    let w = subst (Writes report old new before now) answered writes in (w.1, front_of_report words told report old new is w.0)

pub writes_memory : (words : List (List ℕ)) (told : List ℕ → Told) (report : Report) (old new : Option (List ℕ)) (before now : ℕ) (answer : Status) → IsReport words told report → Writes report old new before now answer →
    answer ≡ OutOfMemory → (now ≡ before) × WritesFront words told old new
writes_memory words told report old new before now answer is writes answered =
    let w = subst (Writes report old new before now) answered writes in (w.1, front_of_report words told report old new is w.0)

-- ---- which words

-- the status of a report on modules
not_bad : (b : Bool) → (if b then Refused else Done) ≡ BadWords → ⊥
not_bad true e = cc
not_bad false e = cc

named_report : (named : Option (List ℕ)) (told : List ℕ → Told) (report : Report) → IsReportNamed named told report → (report.status ≡ BadWords) ↔ (named ≡ None)
named_report None told report is = (λ e. refl, λ e. ap (λ (r : Report). r.status) is)
named_report (Some dir) told report is = (λ e. absurd (by (is_too_large is.0) is.2 e), λ e. absurd cc)
  where
    by : (b : Bool) → IsReportBy b is.0 report → report.status ≡ BadWords → ⊥
    by true h e = let s : TooLarge ≡ BadWords = sym (ap (λ (r : Report). r.status) h) ∙ e in cc (s)
    by false h e = not_bad _ (sym (ap (λ (r : Report). r.status) h.2) ∙ e)

-- a run that ended has answered so exactly where the words name no directory
pub bad_words_only : (words : List (List ℕ)) (told : List ℕ → Told) (old new : Option (List ℕ)) (answer : Status) → WritesReport words told old new answer → (answer ≡ BadWords) ↔ (directory_of words ≡ None)
bad_words_only words told old new answer w =
    let both = named_report (directory_of words) told w.report w.is_report in
    (λ e. both.0 (sym w.answered ∙ e), λ e. w.answered ∙ both.1 e)
