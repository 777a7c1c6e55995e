-- What was listed and read of a directory is its modules.
use Rattle.std.proofs.Common.{◌≡◌, ◌≢◌, ◌↔◌, ◌||◌, ℕ, Bool, true, false, IsTrue, is_some, Option, Some, None, List, [], ◌∷◌, ◌++◌, map, refl, sym, ap, ◌∙◌, subst, string_bytes, String, Global}
use Rattle.std.specs.Bool.{if◌then◌else◌}
use Rattle.std.specs.Prelude.{T}
use Rattle.std.specs.declared.cmp.Ordering.{Ordering}
use Rattle.std.specs.declared.cmp.Ordering.TheVariants.{Less, Equal, Greater}
use Rattle.std.specs.Option.{option_map}
use Rattle.std.specs.FinMap.{find, get, keys, is_sorted, entries, from_entries, entries_sorted, get-entries, get-from_entries, contains_key-keys}
use Rattle.std.specs.FinMap.Entries.{is_some-find, below_all}
use Rattle.std.specs.Cmp.Lexicographic.{nat_list_cmp_total}
use Rattle.std.specs.List.{list_any, filter_map, cons_option, Contains, AllByRecursion}
use Rattle.std.specs.List.Sorted.{IsPermutation, IsStrictlySortedBy}
use Rattle.std.specs.Ordering.{is_eq, is_lt, eq_by_cmp}
use Rattle.std.specs.Str.{bytes_eq}
use Rattle.std.specs.String.{string_cmp}
use Rattle.std.proofs.lemmas.Map.Text.{is_eq-slice_cmp}
use Rattle.std.proofs.lemmas.Bool.{false_from_ne_true}
use Rattle.std.proofs.lemmas.List.Elements.{All-contains, All-from_recursion}
use Rattle.std.proofs.lemmas.Map.Views.{Contains-from_lookup}
use Rattle.std.proofs.lemmas.List.Sorted.{list_any-IsPermutation}
use Rattle.std.proofs.lemmas.Slice.Eq.{bytes_eq-Decides}
use Rattle.std.proofs.lemmas.Option.{same_Some}
use Rattle.outside.specs.Files.{Files, Told, Untold, Missing, Holds, IsListing, IsThere, front_of}
use Rattle.module_load.specs.Folders.{File}
use Rattle.strict_top.specs.Modules.{modules, module_in, module_of, file_cmp, LiesIn, AreModules}
use Rattle.strict_top.specs.Steps.{AreRead, IsFileIn}
use Rattle.strict_top.proofs.ModuleLemmas.{module_file, ending}
use Rattle.strict_top.proofs.SortedNames.{name_cmp, keyed, same_names, sorted_entries, sorted_keys, left_holds, right_holds}

-- the modules that the files hold, in the files' order
abbrev modules_in : List (List ℕ × List ℕ) → List File
modules_in = filter_map module_of

-- names that differ don't tie, and equal ones do
tied : (a b : List ℕ) → a ≡ b → eq_by_cmp name_cmp a b ≡ true
tied a b same = is_eq-slice_cmp a b ∙ (bytes_eq-Decides a b).1 same

apart : (a b : List ℕ) → a ≢ b → eq_by_cmp name_cmp a b ≡ false
apart a b differ = is_eq-slice_cmp a b ∙ false_from_ne_true _ (λ h. differ ((bytes_eq-Decides a b).0 h))

untied : (a b : List ℕ) → eq_by_cmp name_cmp a b ≡ true → a ≡ b
untied a b h = (bytes_eq-Decides a b).0 (sym (is_eq-slice_cmp a b) ∙ h)

-- what the files hold of a module: its name makes a file's, and that file is found
IsHeld : List (List ℕ × List ℕ) → List ℕ → List ℕ → Type 0
IsHeld files name bytes = (module_in (name ++ ending) ≡ Some name) × (option_map front_of (find name_cmp (name ++ ending) files) ≡ Some bytes)

-- with one file more in front, which is no module's or another's
held_behind : (file : List ℕ × List ℕ) (files : List (List ℕ × List ℕ)) (name bytes : List ℕ) → (name ++ ending ≢ file.0) → IsHeld files name bytes → IsHeld (file ∷ files) name bytes
unfolding IsHeld
held_behind file files name bytes other held =
    (held.0, ap (λ b. option_map front_of (if b then Some file.1 else find name_cmp (name ++ ending) files)) (apart (name ++ ending) file.0 other) ∙ held.1)

-- which is the module's
held_in : (file : List ℕ × List ℕ) (files : List (List ℕ × List ℕ)) (name bytes : List ℕ) → module_in file.0 ≡ Some name → front_of file.1 ≡ bytes → IsHeld (file ∷ files) name bytes
unfolding IsHeld
held_in file files name bytes is front =
    let file_is = module_file file.0 name is in (
      ap module_in (sym file_is) ∙ is,
      ap (λ b. option_map front_of (if b then Some file.1 else find name_cmp (name ++ ending) files)) (tied (name ++ ending) file.0 (sym file_is)) ∙ ap Some front,
    )

module_step : (file : List ℕ × List ℕ) (files : List (List ℕ × List ℕ)) (name bytes : List ℕ) → (find name_cmp name (modules_in files) ≡ Some bytes → IsHeld files name bytes) →
    (here : Option (List ℕ)) → module_in file.0 ≡ here → find name_cmp name (cons_option (option_map (λ n. (n, front_of file.1)) here) (modules_in files)) ≡ Some bytes → IsHeld (file ∷ files) name bytes
unfolding IsHeld
module_step file files name bytes rest None none found =
    let held = rest found in
    held_behind file files name bytes (λ same. let e : Some name ≡ None = sym held.0 ∙ ap module_in same ∙ none in absurd cc) held
module_step file files name bytes rest (Some n) is found = by (eq_by_cmp name_cmp name n) refl found
  where
    by : (b : Bool) → eq_by_cmp name_cmp name n ≡ b → (if b then Some (front_of file.1) else find name_cmp name (modules_in files)) ≡ Some bytes → IsHeld (file ∷ files) name bytes
    by true same found = held_in file files name bytes (is ∙ ap Some (sym (untied name n same))) (same_Some _ _ found)
    by false differ found =
        let held = rest found in
        held_behind file files name bytes (λ same.
        let e : name ≡ n = same_Some _ _ (sym held.0 ∙ ap module_in same ∙ is) in
        let t = tied name n e in absurd cc) held

module_found : (files : List (List ℕ × List ℕ)) (name bytes : List ℕ) → find name_cmp name (modules_in files) ≡ Some bytes → IsHeld files name bytes
module_found [] name bytes found = absurd cc
module_found (file ∷ files) name bytes found = module_step file files name bytes (module_found files name bytes) (module_in file.0) refl found

-- the names of the modules are those among the files' names
names_in : (files : List (List ℕ × List ℕ)) → map (λ (file : File). file.0) (modules_in files) ≡ filter_map module_in (map (λ (f : List ℕ × List ℕ). f.0) files)
names_in [] = refl
names_in (file ∷ files) = by (module_in file.0) (names_in files)
  where
    by : (here : Option (List ℕ)) → map (λ (file : File). file.0) (modules_in files) ≡ filter_map module_in (map (λ (f : List ℕ × List ℕ). f.0) files) →
        map (λ (file : File). file.0) (cons_option (option_map (λ n. (n, front_of file.1)) here) (modules_in files)) ≡ cons_option here (filter_map module_in (map (λ (f : List ℕ × List ℕ). f.0) files))
    by None rest = rest
    by (Some n) rest = ap (λ ns. n ∷ ns) rest

-- a test of the modules among files is one of the files
abbrev passes : (List ℕ → Bool) → Option (List ℕ) → Bool
passes p None = false
passes p (Some name) = p name

any_named : (p : List ℕ → Bool) (files : List (List ℕ)) → list_any p (filter_map module_in files) ≡ list_any (λ file. passes p (module_in file)) files
any_named p [] = refl
any_named p (file ∷ files) = by (module_in file) (any_named p files)
  where
    by : (here : Option (List ℕ)) → list_any p (filter_map module_in files) ≡ list_any (λ file. passes p (module_in file)) files →
        list_any p (cons_option here (filter_map module_in files)) ≡ (passes p here || list_any (λ file. passes p (module_in file)) files)
    by None rest = rest
    by (Some name) rest = ap (λ b. p name || b) rest

any_listed : (p : List ℕ → Bool) (xs ys : List (List ℕ)) → IsPermutation xs ys → list_any p (filter_map module_in xs) ≡ list_any p (filter_map module_in ys)
any_listed p xs ys moved = any_named p xs ∙ list_any-IsPermutation (λ file. passes p (module_in file)) xs ys moved ∙ sym (any_named p ys)

-- the order's test and that of the bytes pass alike
any_alike : (q : List ℕ) (names : List (List ℕ)) → list_any (eq_by_cmp name_cmp q) names ≡ list_any (bytes_eq q) names
any_alike q [] = refl
any_alike q (name ∷ names) = λ i. is_eq-slice_cmp q name i || any_alike q names i

-- The names of the modules of a directory, in order, where it is told.
abbrev pub AreNames : Told → List (List ℕ) → Type 0
AreNames Untold names = Unit {0}
AreNames Missing names = ⊥
AreNames (Holds files) names = names ≡ map (λ (file : File). file.0) (modules files)

-- those that were listed are
names_are : (told : Told) (listed names : List (List ℕ)) → IsListing told listed → ((q : List ℕ) → list_any (bytes_eq q) names ≡ list_any (bytes_eq q) (filter_map module_in listed))
    → T (is_sorted name_cmp (keyed names)) → AreNames told names
names_are Untold listed names listing members sorted = tt
names_are Missing listed names listing members sorted = listing
names_are (Holds files) listed names listing members sorted =
    let held = modules_in (entries files) in
    same_names names (map (λ (file : File). file.0) (modules files)) sorted (sorted_entries (modules files) (entries_sorted (from_entries {R = name_cmp} held)))
    (λ q. any_alike q names ∙ members q ∙ any_listed (bytes_eq q) listed (keys files) listing ∙ ap (list_any (bytes_eq q)) (sym (names_in (entries files)))
    ∙ sym (any_alike q (map (λ (file : File). file.0) held)) ∙ sym (is_some-find name_cmp q held) ∙ ap is_some (sym (get-from_entries nat_list_cmp_total held q))
    ∙ contains_key-keys (from_entries {R = name_cmp} held) q)

-- a name below all isn't found
none_below : (name : List ℕ) (es : List File) → T (below_all name_cmp name es) → find name_cmp name es ≡ None
none_below name [] below = refl
none_below name (e ∷ es) below = by (name_cmp name e.0) (left_holds _ _ below) (none_below name es (right_holds _ _ below))
  where
    by : (o : Ordering) → T (is_lt o) → find name_cmp name es ≡ None → (if is_eq o then Some e.1 else find name_cmp name es) ≡ None
    by Less below rest = rest
    by Equal below rest = absurd below
    by Greater below rest = rest

-- what holds of each entry that is found holds of each
found_each : (P : File → Type 0) (es : List File) → T (is_sorted name_cmp es) → ((q b : List ℕ) → find name_cmp q es ≡ Some b → P (q, b)) → AllByRecursion P es
found_each P [] sorted each = tt
found_each P (e ∷ es) sorted each = (
  each e.0 e.1 (ap (λ b. if b then Some e.1 else find name_cmp e.0 es) (tied e.0 e.0 refl)),
  found_each P es (right_holds _ _ sorted) (λ q b found. each q b (ap (λ t. if t then Some e.1 else find name_cmp q es) (apart q e.0 (λ same.
      let none : find name_cmp q es ≡ None = ap (λ n. find name_cmp n es) same ∙ none_below e.0 es (left_holds _ _ sorted) in absurd cc)) ∙ found)),
)

-- each module of a directory is what a reading of its file gives
pub modules_read : (files : Files) → AllByRecursion (IsFileIn (Holds files)) (modules files)
unfolding IsHeld
modules_read files =
    let held = modules_in (entries files) in
    let all = from_entries {R = name_cmp} held in
    found_each (IsFileIn (Holds files)) (entries all) (entries_sorted all) (λ q b found.
    let h = module_found (entries files) q b (sym (get-from_entries nat_list_cmp_total held q) ∙ get-entries all q ∙ found) in
    ap (option_map front_of) (get-entries files (q ++ ending)) ∙ h.1)

-- modules of the same names that were read from the same files are the same
pub same_modules : (files : Files) (xs ys : List File) → map (λ (file : File). file.0) xs ≡ map (λ (file : File). file.0) ys → AllByRecursion (IsFileIn (Holds files)) xs → AllByRecursion (IsFileIn (Holds files)) ys → xs ≡ ys
same_modules files [] [] names xs_read ys_read = refl
same_modules files [] (y ∷ ys) names xs_read ys_read = absurd cc
same_modules files (x ∷ xs) [] names xs_read ys_read = absurd cc
same_modules files (x ∷ xs) (y ∷ ys) names xs_read ys_read =
    let name_is : x.0 ≡ y.0 = cc in
    let rest : map (λ (file : File). file.0) xs ≡ map (λ (file : File). file.0) ys = cc in
    let bytes_is = same_Some _ _ (sym xs_read.0 ∙ ap (λ n. option_map front_of (get files (n ++ ending))) name_is ∙ ys_read.0) in
    λ i. (name_is i, bytes_is i) ∷ same_modules files xs ys rest xs_read.1 ys_read.1 i

-- what was read of a directory is its modules
pub modules_are : (told : Told) (names : List (List ℕ)) (found : List File) → AreNames told names → AreRead told names found → AreModules told found
modules_are Untold names found are read = tt
modules_are Missing names found are read = are
modules_are (Holds files) names found are read = same_modules files found (modules files) (read.named ∙ are) read.each (modules_read files)

-- the modules' files are there
files_there : (files : Files) (found : List File) → AllByRecursion (IsFileIn (Holds files)) found → AllByRecursion (λ name. IsThere (Holds files) (name ++ ending)) (map (λ (file : File). file.0) found)
files_there files [] read = tt
files_there files (file ∷ found) read = (is_there (get files (file.0 ++ ending)) read.0, files_there files found read.1)
  where
    is_there : (found : Option (List ℕ)) → option_map front_of found ≡ Some file.1 → IsTrue (is_some found)
    is_there None is = absurd cc
    is_there (Some bytes) is = refl

untold_there : (names : List (List ℕ)) → AllByRecursion (λ name. IsThere Untold (name ++ ending)) names
untold_there [] = tt
untold_there (name ∷ names) = (tt, untold_there names)

pub names_there : (told : Told) (names : List (List ℕ)) → AreNames told names → AllByRecursion (λ name. IsThere told (name ++ ending)) names
names_there Untold names are = untold_there names
names_there Missing names are = absurd are
names_there (Holds files) names are = subst (AllByRecursion (λ name. IsThere (Holds files) (name ++ ending))) (sym are) (files_there files (modules files) (modules_read files))

-- a set of names, by the bytes of its keys
any_key : (keys : List (String Global)) (q : List ℕ) → list_any (λ key. is_eq (name_cmp q (string_bytes key))) keys ≡ list_any (bytes_eq q) (map string_bytes keys)
any_key [] q = refl
any_key (key ∷ keys) q = λ i. is_eq-slice_cmp q (string_bytes key) i || any_key keys q i

pub set_names_are : (told : Told) (listed seen keys : List (String Global)) → IsListing told (map string_bytes listed) → seen ≡ listed →
    ((q : List ℕ) → list_any (λ key. is_eq (name_cmp q (string_bytes key))) keys ≡ list_any (bytes_eq q) (filter_map module_in (map string_bytes seen))) →
    IsStrictlySortedBy string_cmp keys → AreNames told (map string_bytes keys)
set_names_are told listed seen keys listing same members sorted =
    names_are told (map string_bytes listed) (map string_bytes keys) listing
    (λ q. sym (any_key keys q) ∙ members q ∙ ap (λ files. list_any (bytes_eq q) (filter_map module_in (map string_bytes files))) same)
    (sorted_keys keys sorted)

pub each_key : (P : List ℕ → Type 0) (keys : List (String Global)) → AllByRecursion P (map string_bytes keys) → AllByRecursion (λ (key : String Global). P (string_bytes key)) keys
each_key P [] each = tt
each_key P (key ∷ keys) each = (each.0, each_key P keys each.1)

-- ---- the law of the modules of a directory

-- each of them lies in it
lies_in_each : (files : Files) → AllByRecursion (LiesIn files) (modules files)
unfolding IsHeld
lies_in_each files =
    let held = modules_in (entries files) in
    let all = from_entries {R = name_cmp} held in
    found_each (LiesIn files) (entries all) (entries_sorted all) (λ q b found.
    let h = module_found (entries files) q b (sym (get-from_entries nat_list_cmp_total held q) ∙ get-entries all q ∙ found) in
    record { is_module = h.0; is_front = ap (option_map front_of) (get-entries files (q ++ ending)) ∙ h.1 })

-- one file more in front, which is another's or no module's, hides nothing
found_behind : (file : List ℕ × List ℕ) (name : List ℕ) (front : Option (List ℕ)) (files : List (List ℕ × List ℕ)) (here : Option (List ℕ)) → module_in file.0 ≡ here → name ++ ending ≢ file.0
    → find name_cmp name (modules_in files) ≡ front → find name_cmp name (cons_option (option_map (λ n. (n, front_of file.1)) here) (modules_in files)) ≡ front
found_behind file name front files None is other found = found
found_behind file name front files (Some n) is other found =
    ap (λ b. if b then Some (front_of file.1) else find name_cmp name (modules_in files)) (apart name n (λ same. other (ap (λ m. m ++ ending) same ∙ sym (module_file file.0 n is)))) ∙ found

-- what a module's file has at its front is found under its name
front_found : (files : List (List ℕ × List ℕ)) (name bytes : List ℕ) → module_in (name ++ ending) ≡ Some name → find name_cmp (name ++ ending) files ≡ Some bytes → find name_cmp name (modules_in files) ≡ Some (front_of bytes)
front_found [] name bytes is found = absurd cc
front_found (file ∷ files) name bytes is found = by (eq_by_cmp name_cmp (name ++ ending) file.0) refl found (front_found files name bytes is)
  where
    by : (b : Bool) → eq_by_cmp name_cmp (name ++ ending) file.0 ≡ b → (if b then Some file.1 else find name_cmp (name ++ ending) files) ≡ Some bytes
        → (find name_cmp (name ++ ending) files ≡ Some bytes → find name_cmp name (modules_in files) ≡ Some (front_of bytes)) → find name_cmp name (modules_in (file ∷ files)) ≡ Some (front_of bytes)
    by true same found rest =
        let here : module_in file.0 ≡ Some name = ap module_in (sym (untied (name ++ ending) file.0 same)) ∙ is in
        ap (λ h. find name_cmp name (cons_option (option_map (λ n. (n, front_of file.1)) h) (modules_in files))) here
        ∙ ap (λ b. if b then Some (front_of file.1) else find name_cmp name (modules_in files)) (tied name name refl) ∙ ap (option_map front_of) found
    by false differ found rest =
        found_behind file name (Some (front_of bytes)) files (module_in file.0) refl (λ same. let t = tied (name ++ ending) file.0 same in absurd cc) (rest found)

-- and what lies in it is one of them
one_of_modules : (files : Files) (file : File) (found : Option (List ℕ)) → get files (file.0 ++ ending) ≡ found → module_in (file.0 ++ ending) ≡ Some file.0 → option_map front_of found ≡ Some file.1 → Contains (modules files) file
one_of_modules files file None is module_is front = absurd cc
one_of_modules files file (Some bytes) is module_is front =
    let held = modules_in (entries files) in
    let all = from_entries {R = name_cmp} held in
    let found = front_found (entries files) file.0 bytes module_is (sym (get-entries files (file.0 ++ ending)) ∙ is) in
    Contains-from_lookup untied file.0 file.1 (entries all) (sym (get-entries all file.0) ∙ get-from_entries nat_list_cmp_total held file.0 ∙ found ∙ front)

pub modules_lie_in : (files : Files) (file : File) → Contains (modules files) file ↔ LiesIn files file
modules_lie_in files file = (
  λ one. All-contains (LiesIn files) (modules files) file (All-from_recursion (LiesIn files) (modules files) (lies_in_each files)) one,
  λ lies. one_of_modules files file (get files (file.0 ++ ending)) refl lies.is_module lies.is_front,
)

-- their names are in order
less : (o : Ordering) → T (is_lt o) → o ≡ Less
less Less h = refl
less Equal h = absurd h
less Greater h = absurd h

below_each : (name : List ℕ) (es : List File) → T (below_all name_cmp name es) → AllByRecursion (λ (e : File). name_cmp name e.0 ≡ Less) es
below_each name [] below = tt
below_each name (e ∷ es) below = (less _ (left_holds _ _ below), below_each name es (right_holds _ _ below))

rising : (es : List File) → T (is_sorted name_cmp es) → IsStrictlySortedBy file_cmp es
unfolding IsStrictlySortedBy
rising [] sorted = tt
rising (e ∷ es) sorted = (below_each e.0 es (left_holds _ _ sorted), rising es (right_holds _ _ sorted))

pub modules_rise : (files : Files) → IsStrictlySortedBy file_cmp (modules files)
modules_rise files = rising (modules files) (entries_sorted (from_entries {R = name_cmp} (modules_in (entries files))))
