-- No definition of the language: how far texts begin alike, by which a search goes on without a second look at what it has seen.
use Rattle.std.specs.Prelude.{◌≡◌, ◌≤◌, ℕ, suc, ◌+◌, ◌-◌, ◌==◌, nat_lt, min, if◌then◌else◌, List, [], ◌∷◌, drop, slice_get, Option, Some, None}
use Rattle.py_tree.specs.Syntax.{Text}
use Rattle.atom_ops.specs.declared.search.Window.{Window}

-- the number of code points that both begin with
abbrev pub shared : Text → Text → ℕ
shared [] ys = 0
shared (x ∷ xs) [] = 0
shared (x ∷ xs) (y ∷ ys) = if x == y then suc (shared xs ys) else 0

-- for each of the first places of a part: how far the part begins like itself from there on
abbrev pub AreLengths : Text → List ℕ → Type 0
AreLengths part lengths = (k n : ℕ) → slice_get lengths k ≡ Some n → n ≡ shared (drop k part) part

-- the code points of a window are the first of the part
abbrev pub IsWindow : Text → Text → Window → Type 0
IsWindow part text w = w.end - w.start ≤ shared (drop w.start text) part

abbrev pub or_further : Window → ℕ → ℕ → Window
or_further w place count = if nat_lt w.end (place + count) then record { start = place; end = place + count } else w

abbrev pub at_most : Option ℕ → ℕ → ℕ
at_most (Some n) m = min n m
at_most None m = 0

-- of the code points from a place on, those that a window shows to be the first of the part
abbrev pub known : List ℕ → Window → ℕ → ℕ
known lengths w place = at_most (slice_get lengths (place - w.start)) (w.end - place)
