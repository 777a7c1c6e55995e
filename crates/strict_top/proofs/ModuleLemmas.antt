-- Which files are modules', and the names of those among some files.
use Rattle.std.proofs.Common.{◌≡◌, ◌≢◌, ◌<◌, ◌||◌, ◌&&◌, ◌-◌, ◌+◌, ℕ, Bool, true, false, cond, Option, Some, None, List, [], ◌∷◌, ◌++◌, length, take, drop, get_or, map, codes, string_bytes, refl, sym, ap, ◌∙◌, arith, length-append}
use Rattle.std.specs.List.{filter_map, list_any}
use Rattle.std.specs.Str.{bytes_eq}
use Rattle.std.specs.Cmp.Lexicographic.{nat_list_eq_equiv}
use Rattle.std.specs.Bool.{if◌then◌else◌}
use Rattle.std.proofs.Math.Bool.{or-false}
use Rattle.std.proofs.lemmas.Slice.Eq.{bytes_eq-Decides}
use Rattle.std.proofs.lemmas.List.Elements.{filter_map-append}
use Rattle.std.proofs.lemmas.List.Folds.{list_any-append}
use Rattle.std.specs.declared.alloc.Global.{Global}
use Rattle.std.specs.declared.string.String.{String}
use Rattle.std.proofs.Math.Seq.{take-append_seam, drop-append_seam}
use Rattle.std.proofs.lemmas.List.{take-append-drop, take_more, map-append}
use Rattle.strict_top.specs.Modules.{module_in, is_module_name}

abbrev pub ending : List ℕ
ending = codes ".py"

stem_len : (stem : List ℕ) → length (stem ++ ending) - 3 ≡ length stem
stem_len stem = let e = length-append stem ending in omega arith

-- by what stands before the ending, and by what stands in its place
abbrev named_by : List ℕ → List ℕ → Option (List ℕ)
named_by stem end = if bytes_eq ending end && is_module_name stem then Some stem else None

-- a file with the ending is a module's where what stands before it is the name of one
pub module_in-ending : (stem : List ℕ) → module_in (stem ++ ending) ≡ (if is_module_name stem then Some stem else None)
module_in-ending stem =
    let file = stem ++ ending in
    ap (λ n. named_by (take n file) (drop n file)) (stem_len stem) ∙ ap (λ t. named_by t (drop (length stem) file)) (take-append_seam stem ending)
    ∙ ap (named_by stem) (drop-append_seam stem ending)

-- any other file is no module's
pub module_in-other : (file : List ℕ) → ((stem : List ℕ) → file ≢ stem ++ ending) → module_in file ≡ None
module_in-other file other =
    let n = length file - 3 in
    let name = take n file in
    elim (bytes_eq ending (drop n file)) as (λ b. bytes_eq ending (drop n file) ≡ b → (if b && is_module_name name then Some name else None) ≡ None) [
      | true ↦ λ same. absurd (other name (sym (take-append-drop n file) ∙ ap (λ e. name ++ e) (sym ((bytes_eq-Decides ending (drop n file)).0 same))))
      | false ↦ λ _. refl
    ] refl

-- the names of the modules in one file more
pub names_more : (files : List (String Global)) (i : ℕ) (file : String Global) (name : List ℕ) → i < length files → file ≡ get_or files i file →
    list_any (bytes_eq name) (filter_map module_in (map string_bytes (take (i + 1) files)))
    ≡ (list_any (bytes_eq name) (filter_map module_in (map string_bytes (take i files))) || list_any (bytes_eq name) (filter_map module_in (string_bytes file ∷ [])))
names_more files i file name below is =
    let any = list_any (bytes_eq name) in
    ap (λ fs. any (filter_map module_in (map string_bytes fs))) (take_more files i file below ∙ ap (λ f. take i files ++ f ∷ []) (sym is))
    ∙ ap (λ fs. any (filter_map module_in fs)) (map-append string_bytes (take i files) (file ∷ []))
    ∙ ap any (filter_map-append module_in (map string_bytes (take i files)) (string_bytes file ∷ []))
    ∙ list_any-append (bytes_eq name) (filter_map module_in (map string_bytes (take i files))) (filter_map module_in (string_bytes file ∷ []))

-- a file that is no module's adds no name
pub names_same : (old : Bool) (file name : List ℕ) → module_in file ≡ None → (old || list_any (bytes_eq name) (filter_map module_in (file ∷ []))) ≡ old
names_same old file name none = rw none (or-false old)

-- a module's adds its name
pub names_added : (old : Bool) (file name found : List ℕ) → module_in file ≡ Some found → (old || list_any (bytes_eq name) (filter_map module_in (file ∷ []))) ≡ (if bytes_eq found name then true else old)
names_added old file name found is = rw is (by old (bytes_eq name found) (bytes_eq found name) (symm name found))
  where
    by : (old a b : Bool) → a ≡ b → (old || (a || false)) ≡ cond b true old
    by true a true e = refl
    by true a false e = refl
    by false true true e = refl
    by false true false e = e
    by false false true e = e
    by false false false e = refl

    symm : (a b : List ℕ) → bytes_eq a b ≡ bytes_eq b a
    symm = nat_list_eq_equiv.symm

-- a module's file is its name with the ending
pub module_file : (file name : List ℕ) → module_in file ≡ Some name → file ≡ name ++ ending
module_file file name is =
    let n = length file - 3 in
    by (bytes_eq ending (drop n file)) (is_module_name (take n file)) refl is
  where
    by : (b c : Bool) → bytes_eq ending (drop (length file - 3) file) ≡ b → (if b && c then Some (take (length file - 3) file) else None) ≡ Some name → file ≡ name ++ ending
    by true true same is =
        let name_is : take (length file - 3) file ≡ name = cc in
        sym (take-append-drop (length file - 3) file) ∙ ap (λ e. take (length file - 3) file ++ e) (sym ((bytes_eq-Decides ending (drop (length file - 3) file)).0 same)) ∙ ap (λ s. s ++ ending) name_is
    by true false same is = absurd cc
    by false c same is = absurd cc
