-- What has been read so far of the modules of a set of names.
use Rattle.std.proofs.Common.{◌≡◌, ◌<◌, ◌≤◌, ℕ, ◌+◌, List, [], ◌∷◌, ◌++◌, length, take, map, sym, ap, ◌∙◌, subst, arith, string_bytes, vec_len, String, Vec, Global}
use Rattle.std.specs.List.{AllByRecursion}
use Rattle.std.proofs.lemmas.List.{map-append, append_assoc, append-nil}
use Rattle.std.proofs.lemmas.List.Sums.{sum_by-append}
use Rattle.std.proofs.Math.Seq.{take-append_seam}
use Rattle.outside.specs.Files.{Told}
use Rattle.module_load.specs.declared.folder.ModuleFile.{ModuleFile}
use Rattle.module_load.specs.Folders.{File, file_of}
use Rattle.strict_top.specs.declared.reading.Found.TheVariants as found
use Rattle.strict_top.specs.Modules.{greatest_size, size_of}
use Rattle.strict_top.specs.Steps.{AreRead, IsFileIn, IsReadOf}

-- The modules of the first keys were read, and those of the rest weren't yet. So many bytes were.
pub record HasRead (told : Told) (keys rest : List (String Global)) (files : List ModuleFile) (size : ℕ) : Type 0 where
  pub taken : List (String Global)
  pub split : taken ++ rest ≡ keys
  pub read : AreRead told (map string_bytes taken) (map file_of files)
  pub counted : size ≡ size_of (map file_of files)

each_more : (told : Told) (files : List File) (file : File) → AllByRecursion (IsFileIn told) files → IsFileIn told file →
    AllByRecursion (IsFileIn told) (files ++ file ∷ [])
each_more told [] file each one = (one, tt)
each_more told (f ∷ files) file each one = (each.0, each_more told files file each.1 one)

-- one module more
pub read_more : (told : Told) (keys left rest : List (String Global)) (key : String Global) (files : List ModuleFile) (file : ModuleFile) (size more : ℕ) →
    HasRead told keys left files size → left ≡ key ∷ rest → IsFileIn told (file_of file) → string_bytes file.name ≡ string_bytes key → more ≡ vec_len file.bytes →
    HasRead told keys rest (files ++ file ∷ []) (size + more)
read_more told keys left rest key files file size more so_far next one name len =
    let added = map-append file_of files (file ∷ []) in
    let sum = sum_by-append (λ (f : File). length f.1) (map file_of files) (file_of file ∷ []) in
    let bytes : more ≡ length file.bytes.items = len ∙ file.bytes.ok.0 in
    let size_is : size ≡ size_of (map file_of files) = so_far.counted in
    let new_size : size + more ≡ size_of (map file_of files ++ file_of file ∷ []) = omega arith in
    record {
      taken = so_far.taken ++ key ∷ [];
      split = append_assoc so_far.taken (key ∷ []) rest ∙ ap (λ ks. so_far.taken ++ ks) (sym next) ∙ so_far.split;
      read = record {
        named = ap (map (λ (f : File). f.0)) added ∙ map-append _ (map file_of files) (file_of file ∷ [])
            ∙ ap (λ names. names ++ string_bytes file.name ∷ []) so_far.read.named
            ∙ ap (λ n. map string_bytes so_far.taken ++ n ∷ []) name ∙ sym (map-append string_bytes so_far.taken (key ∷ []));
        each = subst (AllByRecursion (IsFileIn told)) (sym added) (each_more told (map file_of files) (file_of file) so_far.read.each one);
      };
      counted = new_size ∙ ap size_of (sym added);
    }

-- what was read is of the first names
pub read_front : (told : Told) (keys rest : List (String Global)) (files : List ModuleFile) (size : ℕ) → HasRead told keys rest files size → greatest_size < size →
    IsReadOf told (map string_bytes keys) found.TooLarge
read_front told keys rest files size so_far large =
    let names = map string_bytes so_far.taken in
    let front : take (length names) (map string_bytes keys) ≡ names =
    ap (λ ks. take (length names) (map string_bytes ks)) (sym so_far.split) ∙ ap (take (length names)) (map-append string_bytes so_far.taken rest)
    ∙ take-append_seam names (map string_bytes rest) in (
      length names,
      map file_of files,
      subst (λ ns. AreRead told ns (map file_of files)) (sym front) so_far.read,
      subst (λ n. greatest_size < n) so_far.counted large,
    )

-- and in the end of all
pub read_all : (told : Told) (keys rest : List (String Global)) (files : Vec ModuleFile Global) (size : ℕ) →
    HasRead told keys rest files.items size → rest ≡ [] → size ≤ greatest_size → IsReadOf told (map string_bytes keys) (found.Modules files)
read_all told keys rest files size so_far none small =
    let all : so_far.taken ≡ keys = sym (append-nil so_far.taken) ∙ ap (λ ks. so_far.taken ++ ks) (sym none) ∙ so_far.split in
    (subst (λ ks. AreRead told (map string_bytes ks) (map file_of files.items)) all so_far.read, subst (λ n. n ≤ greatest_size) so_far.counted small)
