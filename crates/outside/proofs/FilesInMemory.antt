-- The files of a folder in memory: a directory's row that was found, a listing's names and a reading's bytes.
use Rattle.std.proofs.Common.{◌≡◌, ℕ, Bool, true, false, cond, List, [], ◌∷◌, map, All, Option, Some, None, Bor, refl, sym, ap, subst, ◌∙◌}
use Rattle.std.specs.Prelude.{is_some, IsSome}
use Rattle.std.specs.Option.{option_map, option_copied}
use Rattle.std.specs.Cmp.Lexicographic.{slice_cmp, nat_list_cmp_total, nat_list_eq_equiv, texts_ties}
use Rattle.std.specs.FinMap as fin
use Rattle.std.specs.List.{find, IsDistinct}
use Rattle.std.specs.List.Sorted.{IsPermutation}
use Rattle.std.specs.Ordering.{eq_by_cmp, nat_cmp}
use Rattle.std.specs.Str.{bytes_eq}
use Rattle.std.proofs.lemmas.List.Elements.{All-head, All-tail}
use Rattle.outside.specs.declared.rows.FileRow.{FileRow}
use Rattle.outside.specs.Files.{Holds, IsThere, IsReading, front_of}
use Rattle.outside.specs.Memory.{AreFiles, row_in, files_in}
use Rattle.outside.proofs.MapKeys.{keys-from_entries}

-- what is true of each element is true of the one that is found
pub All-found : {X : Type 0} (P : X → Type 0) (test : X → Bool) (xs : List X) (x : X) → All P xs → find test xs ≡ Some x → P x
All-found P test [] x all found = absurd (cc)
All-found P test (y ∷ ys) x all found =
    elim (test y) as (λ b. cond b (Some y) (find test ys) ≡ Some x → P x) [
      | true ↦ λ e. let same : y ≡ x = cc in subst P same (All-head P y ys all)
      | false ↦ λ e. All-found P test ys x (All-tail P y ys all) e
    ] found

-- the names of the rows, each with its bytes
names-paired : (rows : List FileRow) → map (λ (e : List ℕ × List ℕ). e.0) (map (λ (row : FileRow). (row.name, row.bytes)) rows) ≡ map (λ (row : FileRow). row.name) rows
names-paired [] = refl
names-paired (row ∷ rows) = ap (λ names. row.name ∷ names) (names-paired rows)

-- the names of the rows are a listing of their files
pub IsPermutation-names : (rows : List FileRow) → AreFiles rows → IsPermutation (map (λ row. row.name) rows) (fin.keys (files_in rows))
IsPermutation-names rows files =
    let alike : bytes_eq ≡ eq_by_cmp (slice_cmp nat_cmp) = λ i x y. texts_ties x y i in
    let distinct : IsDistinct bytes_eq (map (λ (e : List ℕ × List ℕ). e.0) (map (λ (row : FileRow). (row.name, row.bytes)) rows)) = rw (names-paired rows) files.distinct in
    rw (← names-paired rows) (keys-from_entries (slice_cmp nat_cmp) nat_list_cmp_total _ (subst (λ e. IsDistinct e (map (λ (e : List ℕ × List ℕ). e.0) (map (λ (row : FileRow). (row.name, row.bytes)) rows))) alike distinct))

-- the bytes of a name's row
find-paired : (rows : List FileRow) (name : List ℕ) → fin.find (slice_cmp nat_cmp) name (map (λ (row : FileRow). (row.name, row.bytes)) rows) ≡ option_map (λ (row : FileRow). row.bytes) (row_in rows name)
find-paired [] name = refl
find-paired (row ∷ rows) name =
    let alike : eq_by_cmp (slice_cmp nat_cmp) name row.name ≡ bytes_eq row.name name = sym (texts_ties name row.name) ∙ nat_list_eq_equiv.symm name row.name in
    rw (alike, find-paired rows name) (elim (bytes_eq row.name name) as (λ b. cond b (Some row.bytes) (option_map (λ (row : FileRow). row.bytes) (row_in rows name)) ≡ option_map (λ (row : FileRow). row.bytes) (cond b (Some row) (row_in rows name))) [ true ↦ refl | false ↦ refl ])

pub get-files_in : (rows : List FileRow) (name : List ℕ) → fin.get (files_in rows) name ≡ option_map (λ (row : FileRow). row.bytes) (row_in rows name)
get-files_in rows name = fin.get-from_entries nat_list_cmp_total _ name ∙ find-paired rows name

-- a file that is told has its row
pub IsSome-told : (rows : List FileRow) (name : List ℕ) (row : Option (Bor FileRow)) → option_copied row ≡ row_in rows name → IsThere (Holds (files_in rows)) name → IsSome row
IsSome-told rows name None found there = let e : false ≡ true = sym (ap is_some (get-files_in rows name ∙ ap (option_map (λ (row : FileRow). row.bytes)) (sym found))) ∙ there in cc
IsSome-told rows name (Some row) found there = refl

-- the front of its bytes is a reading of it
pub IsReading-front : (rows : List FileRow) (name : List ℕ) (row : FileRow) (bytes : List ℕ) → row_in rows name ≡ Some row → bytes ≡ front_of row.bytes → IsReading (Holds (files_in rows)) name bytes
IsReading-front rows name row bytes found is = ap (option_map front_of) (get-files_in rows name ∙ ap (option_map (λ (row : FileRow). row.bytes)) found) ∙ ap Some (sym is)
