-- A run of characters that pass, and a count of them, are within the text.
use Rattle.std.proofs.Common.{ℕ, ◌≤◌, Bool, List, length}
use Rattle.std.specs.List.{prefix_len, count_by}
use Rattle.std.proofs.lemmas.List.Sums.{prefix_len-le-length, count_by-le-length}

pub within : (p : ℕ → Bool) (cs : List ℕ) → prefix_len p cs ≤ length cs
within p cs = prefix_len-le-length p cs

pub counted : (p : ℕ → Bool) (cs : List ℕ) → count_by p cs ≤ length cs
counted p cs = count_by-le-length p cs
