-- What was found in a directory: its modules, or that they are too large.
use Rattle.std.proofs.Common.{◌≡◌, ◌<◌, ◌≤◌, ◌||◌, ℕ, true, false, List, [], length, take, map, arith, refl, sym, ap, ◌∙◌, subst}
use Rattle.std.specs.Prelude.{nat_lt}
use Rattle.std.specs.List.{AllByRecursion}
use Rattle.std.proofs.Math.Bool.{or-true}
use Rattle.std.proofs.lemmas.Bool.{lt-ltb, le-ltb}
use Rattle.std.proofs.lemmas.List.{take-map, length-map}
use Rattle.std.proofs.lemmas.List.Elements.{All-from_recursion, recursion_from_All, All-take}
use Rattle.std.proofs.lemmas.List.Sums.{sum_by-take-le}
use Rattle.outside.specs.Files.{Told, Untold, Missing, Holds}
use Rattle.module_load.specs.Folders.{File, file_of}
use Rattle.strict_top.specs.declared.reading.Found.{Found}
use Rattle.strict_top.specs.declared.reading.Found.TheVariants as found
use Rattle.strict_top.specs.Modules.{modules, AreModules, greatest_count, greatest_size, size_of, is_too_large}
use Rattle.strict_top.specs.Steps.{AreRead, IsReadOf, IsFound}
use Rattle.strict_top.proofs.FolderModules.{AreNames, modules_are, modules_read, same_modules}

by_count : (files : List File) → greatest_count < length files → is_too_large files ≡ true
by_count files many = ap (λ b. b || nat_lt greatest_size (size_of files)) (lt-ltb _ _ many)

by_size : (files : List File) → greatest_size < size_of files → is_too_large files ≡ true
by_size files large = ap (λ b. nat_lt greatest_count (length files) || b) (lt-ltb _ _ large) ∙ or-true _

few_enough : (files : List File) → length files ≤ greatest_count → size_of files ≤ greatest_size → is_too_large files ≡ false
few_enough files few small = λ i. le-ltb greatest_count (length files) few i || le-ltb greatest_size (size_of files) small i

each_front : (P : File → Type 0) (n : ℕ) (files : List File) → AllByRecursion P files → AllByRecursion P (take n files)
each_front P n files each = recursion_from_All P (take n files) (All-take P n files (All-from_recursion P files each))

-- where the first ones have too many bytes, all have
too_many_bytes : (told : Told) (names : List (List ℕ)) (n : ℕ) (front : List File) → AreNames told names → AreRead told (take n names) front →
    greatest_size < size_of front → (files : List File) × AreModules told files × (is_too_large files ≡ true)
too_many_bytes Untold names n front are read large = (front, tt, by_size front large)
too_many_bytes Missing names n front are read large = absurd are
too_many_bytes (Holds files) names n front are read large =
    let all = modules files in
    let first : front ≡ take n all = same_modules files front (take n all)
    (read.named ∙ ap (take n) are ∙ take-map _ n all) read.each (each_front _ n all (modules_read files)) in
    let less = sum_by-take-le (λ (file : File). length file.1) all n in
    let size = ap size_of first in
    (all, refl, by_size all (omega arith))

-- where the names are too many, the modules are
pub too_many : (told : Told) (names : List (List ℕ)) → AreNames told names → greatest_count < length names →
    (files : List File) × AreModules told files × (is_too_large files ≡ true)
too_many Untold names are many =
    let empty : List File = map (λ name. (name, [])) names in
    (empty, tt, by_count empty (subst (λ n. greatest_count < n) (sym (length-map names (λ name. (name, [])))) many))
too_many Missing names are many = absurd are
too_many (Holds files) names are many =
    let as_many : length names ≡ length (modules files) = ap length are ∙ length-map (modules files) (λ (file : File). file.0) in
    (modules files, refl, by_count (modules files) (subst (λ n. greatest_count < n) as_many many))

-- what reading the modules of a directory gives was found in it
pub found_in : (told : Told) (names : List (List ℕ)) (found : Found) → AreNames told names → length names ≤ greatest_count →
    IsReadOf told names found → IsFound told found
found_in told names (found.Modules files) are few read =
    let list = map file_of files.items in
    let count : length list ≡ length names = sym (length-map list (λ (file : File). file.0)) ∙ ap length read.0.named in
    (modules_are told names list are read.0, few_enough list (subst (λ n. n ≤ greatest_count) (sym count) few) read.1)
found_in told names found.TooLarge are few read = too_many_bytes told names read.0 read.1 are read.2 read.3
