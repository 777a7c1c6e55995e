-- The lines of a report, one after the other, and its status.
use Rattle.std.proofs.Common.{◌≡◌, ◌<◌, ◌≤◌, ℕ, ◌+◌, suc, List, [], ◌∷◌, ◌++◌, ◌||◌, Option, Some, refl, subst, length, get_or, slice_get, drop, map, sym, ap, ◌∙◌, add-one, drop-cons, arith, string_bytes}
use Rattle.std.specs.List.{flat_map, list_any}
use Rattle.std.proofs.Math.ListN.{drop_of_length-le}
use Rattle.std.proofs.lemmas.Option.{get_or_from_slice_get, slice_get_within}
use Rattle.module_load.specs.declared.folder.ModuleFile.{ModuleFile}
use Rattle.module_load.specs.declared.verdict.Verdict.{Verdict}
use Rattle.module_load.specs.Folders.{File, file_of}
use Rattle.module_load.specs.Right.{is_refused}
use Rattle.strict_top.specs.Reports.{line_of, is_refused_module, verdict_line}
use Rattle.strict_top.specs.Steps.{paired}
use Rattle.strict_top.proofs.Writing.{HasWritten}

-- the lines from one module on
abbrev pub lines_from : ℕ → List ModuleFile → List Verdict → List ℕ
lines_from i files verdicts = flat_map line_of (paired (map file_of (drop i files)) (drop i verdicts))

-- are its line and those from the next on
pub lines_next : (files : List ModuleFile) (verdicts : List Verdict) (i : ℕ) (file : ModuleFile) (verdict : Verdict) (line : List ℕ) → i < length files → file ≡ get_or files i file
    → slice_get verdicts i ≡ Some verdict → line ≡ verdict_line (string_bytes file.name) verdict → lines_from i files verdicts ≡ line ++ lines_from (i + 1) files verdicts
lines_next files verdicts i file verdict line below is decided spelled =
    let rest = λ (fs : List ModuleFile) (vs : List Verdict). flat_map line_of (paired (map file_of fs) vs) in
    ap (λ fs. rest fs (drop i verdicts)) (drop-cons files i file below ∙ ap (λ f. f ∷ drop (suc i) files) (sym is))
    ∙ ap (rest (file ∷ drop (suc i) files)) (drop-cons verdicts i verdict (slice_get_within verdicts i verdict decided) ∙ ap (λ v. v ∷ drop (suc i) verdicts) (get_or_from_slice_get verdicts i verdict verdict decided))
    ∙ ap (λ l. l ++ lines_from (suc i) files verdicts) (sym spelled) ∙ ap (λ n. line ++ lines_from n files verdicts) (sym (add-one i))

-- the lines of the modules before are written, and those from it on begin with its line
pub at_line : {bytes : List ℕ} {first now : Option (List ℕ)} {room left : Option ℕ} (files : List ModuleFile) (verdicts : List Verdict) (i : ℕ) (file : ModuleFile) (verdict : Verdict) (line : List ℕ) →
    i < length files → file ≡ get_or files i file → slice_get verdicts i ≡ Some verdict → line ≡ verdict_line (string_bytes file.name) verdict →
    HasWritten bytes (lines_from i files verdicts) first now room left → HasWritten bytes (line ++ lines_from (i + 1) files verdicts) first now room left
at_line {bytes} {first} {now} {room} {left} files verdicts i file verdict line below is decided spelled =
    subst (λ rest. HasWritten bytes rest first now room left) (lines_next files verdicts i file verdict line below is decided spelled)

-- behind the last module there are no lines
pub lines_end : (files : List ModuleFile) (verdicts : List Verdict) (i : ℕ) → length files ≤ i → length (lines_from i files verdicts) ≡ 0
lines_end files verdicts i past = ap (λ fs. length (flat_map line_of (paired (map file_of fs) (drop i verdicts)))) (drop_of_length-le files past)

-- one of the modules is refused where one of the verdicts is
pub any_paired : (files : List File) (verdicts : List Verdict) → length verdicts ≡ length files → list_any is_refused_module (paired files verdicts) ≡ list_any is_refused verdicts
any_paired [] [] as_many = refl
any_paired [] (verdict ∷ verdicts) as_many = absurd (omega (arith, as_many))
any_paired (file ∷ files) [] as_many = absurd (omega (arith, as_many))
any_paired (file ∷ files) (verdict ∷ verdicts) as_many = ap (λ b. is_refused verdict || b) (any_paired files verdicts (omega (arith, as_many)))
