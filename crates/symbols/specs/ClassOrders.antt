-- No definition of the language: an order in which classes are visited.
use Rattle.std.specs.Prelude.{◌<◌, ℕ, List}
use Rattle.std.specs.List.{Contains}

-- each of so many numbers stands in it, and no other
abbrev pub IsOrder : ℕ → List ℕ → Type 0
IsOrder count order = (number : ℕ) → (number < count → Contains order number) × (Contains order number → number < count)
