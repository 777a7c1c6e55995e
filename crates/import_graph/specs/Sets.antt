-- No definition of the language: sets of numbers as the bits of words, and a table of such sets.
use Rattle.std.specs.Prelude.{◌≡◌, ℕ, ◌+◌, ◌<◌, ◌/◌, ◌%◌, ◌==◌, ◌||◌, ◌&&◌, Bool, List, [], length, slice_index, slice_index_or}
use Rattle.std.specs.Int.{bit_at}

-- whether the number is in the set
abbrev pub is_in : List ℕ → ℕ → Bool
is_in words n = bit_at (slice_index words (n / 64)) (n % 64) == 1

-- how many words a set of numbers below the bound has
abbrev pub words_for : ℕ → ℕ
words_for bound = bound / 64 + 1

-- for each module the set of the modules at which the test passes
pub record IsTable (test : ℕ → ℕ → Bool) (count : ℕ) (sets : List (List ℕ)) : Type 0 where
  pub all : length sets ≡ count
  pub room : (m : ℕ) → m < count → length (slice_index_or sets m []) ≡ words_for count
  pub marks : (m n : ℕ) → m < count → n < count → is_in (slice_index_or sets m []) n ≡ test m n

-- in the new sets are those of the old ones, and where an old one has the number `by` also those that are in `from`
pub record IsPassedOn (by : ℕ) (from : List ℕ) (old new : List (List ℕ)) : Type 0 where
  pub all : length new ≡ length old
  pub room : (m : ℕ) → m < length old → length (slice_index_or new m []) ≡ length (slice_index_or old m [])
  pub marks : (m n : ℕ) → m < length old
      → is_in (slice_index_or new m []) n ≡ is_in (slice_index_or old m []) n || (is_in (slice_index_or old m []) by && is_in from n)
