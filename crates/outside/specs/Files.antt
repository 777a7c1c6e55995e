-- What a folder is: for each directory a finite map from file names to bytes.
use Rattle.std.specs.Prelude.{◌≡◌, ℕ, IsTrue, List, Some, take, option_map}
use Rattle.std.specs.Option.{option_map}
use Rattle.std.specs.Ordering.{nat_cmp}
use Rattle.std.specs.Cmp.Lexicographic.{slice_cmp}
use Rattle.std.specs.List.Sorted.{IsPermutation}
use Rattle.std.specs.FinMap.{FinMap, get, contains_key, keys}

-- The files of a directory, by their names, in the order of the names' bytes.
abbrev pub Files : Type 0
Files = FinMap (slice_cmp nat_cmp) (List ℕ)

-- What a folder tells of a directory: nothing, that it isn't there, or its files.
pub data Told : Type 0 where
  Untold : Told
  Missing : Told
  Holds : Files → Told

-- The first bytes of a file, one more than a module may have.
abbrev pub front_of : List ℕ → List ℕ
front_of bytes = take 1048577 bytes

-- The names that a listing gives: each file's once, in any order. A directory that isn't there has no listing.
abbrev pub IsListing : Told → List (List ℕ) → Type 0
IsListing Untold names = Unit {0}
IsListing Missing names = ⊥
IsListing (Holds files) names = IsPermutation names (keys files)

-- Where the files are told, the file is there.
abbrev pub IsThere : Told → List ℕ → Type 0
IsThere Untold name = Unit {0}
IsThere Missing name = ⊥
IsThere (Holds files) name = IsTrue (contains_key files name)

-- The bytes that a reading gives.
abbrev pub IsReading : Told → List ℕ → List ℕ → Type 0
IsReading Untold name bytes = Unit {0}
IsReading Missing name bytes = ⊥
IsReading (Holds files) name bytes = option_map front_of (get files name) ≡ Some bytes
