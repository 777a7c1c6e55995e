-- Where a part stands in a text.
use Rattle.std.specs.Prelude.{◌≤◌, ◌<◌, ℕ, nat_eq, IsTrue, length, drop}
use Rattle.std.specs.List.{starts_with}
use Rattle.py_tree.specs.Syntax.{Text}

-- from that place on the text begins with the part
abbrev pub StandsAt : Text → Text → ℕ → Type 0
StandsAt part text place = (place ≤ length text) × IsTrue (starts_with nat_eq (drop place text) part)

-- the least place, from there on, at which the part stands
pub record IsNextPlace (part text : Text) (from place : ℕ) : Type 0 where
  pub there : StandsAt part text place
  pub behind : from ≤ place
  pub first : (earlier : ℕ) → from ≤ earlier → earlier < place → StandsAt part text earlier → ⊥

-- it stands nowhere from there on
abbrev pub IsNowhere : Text → Text → ℕ → Type 0
IsNowhere part text from = (place : ℕ) → from ≤ place → StandsAt part text place → ⊥
