-- Calls that are numbered from 1, of which some are to fail.
use Rattle.std.specs.Prelude.{ℕ, ◌+◌, ◌-◌, ◌^◌, min, Bool, ◌==◌, List}
use Rattle.std.specs.List.{list_any}

-- A count that has risen. At the last value of 64 bits it stands still.
abbrev pub next_count : ℕ → ℕ
next_count count = min (count + 1) (2 ^ 64 - 1)

-- Whether the call after so many is among those that are to fail.
abbrev pub is_due : List ℕ → ℕ → Bool
is_due failing calls = list_any (λ number. number == next_count calls) failing
