-- The world of the sources of files is what is right to decide of each of them.
use Rattle.std.proofs.Common.{◌≡◌, ℕ, suc, ◌+◌, List, [], ◌∷◌, length, Some, refl, ap, ◌∙◌, arith}
use Rattle.std.specs.Prelude.{slice_get}
use Rattle.registry_core.specs.declared.sources.Sources.{Sources}
use Rattle.registry_core.specs.Verdicts.{IsWhole}
use Rattle.module_load.specs.declared.source.Source.{Source}
use Rattle.module_load.specs.declared.strict_python.StrictPython.{StrictPython}
use Rattle.module_load.specs.declared.verdict.Verdict.{Verdict}
use Rattle.module_load.specs.Folders.{File, IsSources}
use Rattle.module_load.specs.Right.{right, is_refused}
use Rattle.strict_top.specs.Reports.{Judged, judged_from, verdict_of}
use Rattle.strict_top.specs.Steps.{AreDecided, paired}

paired_is : (verdict : ℕ → Verdict) (files : List File) (verdicts : List Verdict) (k : ℕ) → length verdicts ≡ length files
    → ((m : ℕ) (v : Verdict) → slice_get verdicts m ≡ Some v → v ≡ verdict (k + m)) → paired files verdicts ≡ judged_from verdict k files
paired_is verdict [] verdicts k long each = refl
paired_is verdict (file ∷ files) [] k long each = absurd (omega (arith, long))
paired_is verdict (file ∷ files) (v ∷ verdicts) k long each =
    let here : v ≡ verdict k = each 0 v refl ∙ ap verdict (omega arith) in
    let rest = paired_is verdict files verdicts (suc k) (omega (arith, long)) (λ m w h. each (suc m) w h ∙ ap verdict (omega arith)) in
    ap (λ (w : Verdict). (file.0, w) ∷ paired files verdicts) here ∙ ap (λ (judged : List Judged). (file.0, verdict k) ∷ judged) rest

-- what a registry over the modules of a folder decided
abbrev pub IsPythonWorld : StrictPython → Sources Source → List Verdict → Type 0
IsPythonWorld loads all verdicts =
    IsWhole (λ v. v) (λ l all m list. right all m list) (λ l all m list v. v ≡ right all m list) is_refused (Some loads) (Some all) verdicts

pub world_of_files : (files : List File) (loads : StrictPython) (all : Sources Source) (verdicts : List Verdict)
    → IsSources files all → IsPythonWorld loads all verdicts → AreDecided files verdicts
world_of_files files loads all verdicts sources whole =
    let as_many : length verdicts ≡ length files = omega (arith, whole.all, all.each, sources.list.as_many) in
    record {
      all = all;
      sources = sources;
      as_many = as_many;
      right = paired_is (verdict_of all) files verdicts 0 as_many (λ m v h. whole.worlds m v h ∙ ap (verdict_of all) (omega arith));
    }
