-- No definition of the language: what is decided of the modules that a module needs, by their numbers.
use Rattle.std.specs.Prelude.{◌≡◌, ◌<◌, ℕ, List, length, Option, Some, None, slice_index_or}
use Rattle.std.specs.Borrow.{Bor}
use Rattle.std.specs.Option.{option_copied}
use Rattle.registry_core.specs.declared.imports.Import.{Import}
use Rattle.registry_core.specs.Verdicts.{data_list}
use Rattle.module_load.specs.declared.verdict.Verdict.{Verdict}
use Rattle.module_load.specs.Right.{decided}

-- rows as modules with their verdicts
abbrev pub rows_of : List (Import Verdict) → List (ℕ × Verdict)
rows_of rows = data_list (λ (v : Verdict). v) rows

-- the verdict in a table
abbrev pub in_table : List (Option (Bor Verdict)) → Option ℕ → Option Verdict
in_table table None = None
in_table table (Some n) = option_copied (slice_index_or table n None)

-- for each number of so many the verdict that the rows have
pub record IsTableOf (count : ℕ) (rows : List (Import Verdict)) (table : List (Option (Bor Verdict))) : Type 0 where
  pub all : length table ≡ count
  pub each : (n : ℕ) → n < count → option_copied (slice_index_or table n None) ≡ decided (rows_of rows) n
