-- The report on modules: a line for each, and a status.
use Rattle.std.specs.Prelude.{ℕ, suc, Bool, if◌then◌else◌, List, [], ◌∷◌, ◌++◌, length, codes}
use Rattle.std.specs.Fmt.{decimal}
use Rattle.std.specs.List.{list_any, flat_map}
use Rattle.py_tree.specs.Codes.{printed}
use Rattle.import_graph.specs.World.{rules_over, world}
use Rattle.registry_core.specs.declared.sources.Sources.{Sources}
use Rattle.module_load.specs.declared.source.Source.{Source}
use Rattle.module_load.specs.declared.verdict.Verdict.{Verdict}
use Rattle.module_load.specs.declared.verdict.Verdict.TheVariants as verdict
use Rattle.module_load.specs.Folders.{File}
use Rattle.module_load.specs.Right.{right, is_refused}
use Rattle.strict_top.specs.declared.status.Status.{Status}
use Rattle.strict_top.specs.declared.status.Status.TheVariants.{Done, Refused, BadWords, TooLarge}

pub record Report : Type 0 where
  pub bytes : List ℕ
  pub status : Status

-- A verdict as a report has it. Of a published module it tells how many globals it has.
abbrev pub verdict_text : Verdict → List ℕ
verdict_text (verdict.Published globals) = codes "published " ++ decimal (length globals)
verdict_text verdict.Plain = codes "plain"
verdict_text (verdict.Refused fault) = codes "refused line " ++ decimal fault.line ++ codes " " ++ printed fault.code

-- The line of a module, with its line feed.
abbrev pub verdict_line : List ℕ → Verdict → List ℕ
verdict_line name verdict = codes "module " ++ name ++ codes " " ++ verdict_text verdict ++ codes "\n"

-- A module's name, and what is decided of it.
abbrev pub Judged : Type 0
Judged = List ℕ × Verdict

abbrev pub line_of : Judged → List ℕ
line_of entry = verdict_line entry.0 entry.1

abbrev pub is_refused_module : Judged → Bool
is_refused_module entry = is_refused entry.1

-- The report on these modules: refused where one of them is.
abbrev pub report_of : List Judged → Report
report_of judged = record {
  bytes = flat_map line_of judged;
  status = if list_any is_refused_module judged then Refused else Done;
}

-- What is right to decide of each module of these sources, over what is right to decide of those that it needs.
abbrev pub verdict_of : Sources Source → ℕ → Verdict
verdict_of all = world (rules_over all.graph (right all) is_refused)

-- These modules, from that number on, by such verdicts.
abbrev pub judged_from : (ℕ → Verdict) → ℕ → List File → List Judged
judged_from verdict m [] = []
judged_from verdict m (file ∷ files) = (file.0, verdict m) ∷ judged_from verdict (suc m) files

-- The modules of these files, each with its right verdict.
abbrev pub judged : List File → Sources Source → List Judged
judged files all = judged_from (verdict_of all) 0 files

-- The report where the words aren't taken, and where the folder is too large.
abbrev pub bad_words : Report
bad_words = record { bytes = codes "bad words\n"; status = BadWords }

abbrev pub too_large : Report
too_large = record { bytes = []; status = TooLarge }
