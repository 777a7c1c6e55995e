-- What a sink has been given, where it tells it.
use Rattle.std.specs.Prelude.{◌≡◌, ℕ, ◌-◌, List, ◌++◌, Option}
use Rattle.std.specs.Option.{option_map}

-- The bytes were written behind those before.
abbrev pub Appends : Option (List ℕ) → Option (List ℕ) → List ℕ → Type 0
Appends old new bytes = new ≡ option_map (λ written. written ++ bytes) old

-- So much of the room was taken.
abbrev pub Takes : Option ℕ → Option ℕ → ℕ → Type 0
Takes old new n = new ≡ option_map (λ room. room - n) old
