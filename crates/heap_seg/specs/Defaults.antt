-- The default values of functions: a list of rows, one for each parameter that has one, in the order in which they were first set.
use Rattle.std.specs.Prelude.{ℕ, Bool, ◌&&◌, ◌==◌, if◌then◌else◌, List, [], ◌∷◌, map, Option, Some, None}
use Rattle.py_values.specs.declared.value.Value.{Value}
use Rattle.heap_seg.specs.declared.defaults.DefaultRow.{DefaultRow}
use Rattle.heap_seg.specs.declared.defaults.Defaults.{Defaults}
use Rattle.heap_seg.specs.declared.defaults.Parameter.{Parameter}

abbrev pub is_for : ℕ → ℕ → DefaultRow → Bool
is_for function param row = function == row.function && param == row.param

abbrev pub default_of : ℕ → ℕ → List DefaultRow → Option Value
default_of function param [] = None
default_of function param (row ∷ rows) = if is_for function param row then Some row.value else default_of function param rows

-- a row that is there keeps its place and takes the value; another goes to the end
abbrev pub with_default : ℕ → ℕ → Value → List DefaultRow → List DefaultRow
with_default function param value [] = record { function = function; param = param; value = value } ∷ []
with_default function param value (row ∷ rows) =
    if is_for function param row then record row { value = value } ∷ rows else row ∷ with_default function param value rows

-- from the default values of the program

abbrev pub row_of : Parameter × Value → DefaultRow
row_of entry = record { function = entry.0.function; param = entry.0.number; value = entry.1 }

abbrev pub rows_of : Defaults → List DefaultRow
rows_of d = map row_of d.values.entries
