-- The verdicts of modules, as a list of rows.
use Rattle.std.specs.Prelude.{ℕ, ◌==◌, Bool, List, Option}
use Rattle.std.specs.List.{list_any, find}
use Rattle.std.specs.Option.{option_map}
use Rattle.std.specs.declared.sync.Arc.{Arc}
use Rattle.std.specs.declared.alloc.Global.{Global}
use Rattle.registry_core.specs.declared.imports.Import.{Import}

-- the rows, and for how many there is room
pub record ImportsView (V : Type 0) : Type 0 where
  pub rows : List (Import V)
  pub room : ℕ

-- whether the module has a row
abbrev pub has_row : {V : Type 0} → List (Import V) → ℕ → Bool
has_row rows m = list_any (λ row. row.module == m) rows

-- the verdict in the module's row
abbrev pub verdict_of : {V : Type 0} → List (Import V) → ℕ → Option (Arc V Global)
verdict_of rows m = option_map (λ row. row.verdict) (find (λ row. row.module == m) rows)
