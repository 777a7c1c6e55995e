-- No definition of the language: how often names stand in lists.
use Rattle.std.specs.Prelude.{ℕ, ◌+◌, if◌then◌else◌, List, [], ◌∷◌}
use Rattle.std.specs.Option.{unwrap_or}
use Rattle.std.specs.Str.{bytes_eq}
use Rattle.py_tree.specs.Syntax.{Text}
use Rattle.symbols.specs.declared.tally.Tally.{Tally}
use Rattle.symbols.specs.Names.{found}

-- 1 for a name and itself
abbrev pub is_same : Text → Text → ℕ
is_same name other = if bytes_eq name other then 1 else 0

abbrev pub times : Text → List Text → ℕ
times name [] = 0
times name (other ∷ others) = is_same name other + times name others

abbrev pub count : Tally → Text → ℕ
count tally name = unwrap_or (found tally.counts name) 0
