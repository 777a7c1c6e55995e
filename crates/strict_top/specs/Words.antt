-- Which words after the program's name are taken.
use Rattle.std.specs.Prelude.{ℕ, ◌||◌, nat_eq, Bool, if◌then◌else◌, List, [], ◌∷◌, codes, Option, Some, None}
use Rattle.std.specs.List.{starts_with}

-- An option, or the name of a generated folder.
abbrev pub is_reserved : List ℕ → Bool
is_reserved word = starts_with nat_eq word (codes "-") || starts_with nat_eq word (codes "gen:")

-- The directory that the words name: they are taken where there is one word, and it isn't reserved.
abbrev pub directory_of : List (List ℕ) → Option (List ℕ)
directory_of [] = None
directory_of (word ∷ []) = if is_reserved word then None else Some word
directory_of (word ∷ next ∷ more) = None
