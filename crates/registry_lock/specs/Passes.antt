-- What contracts see of the passes of loaders.
use Rattle.std.specs.Prelude.{◌≡◌, ◌<◌, ℕ, ◌+◌, List, length, slice_index_or}

-- the number of its loader, and how many claims it has open
pub record PassView : Type 0 where
  pub number : ℕ
  pub open_claims : ℕ

-- the pass with so many open claims more
abbrev pub with_more : PassView → ℕ → PassView
with_more pass more = record { number = pass.number; open_claims = pass.open_claims + more }

-- a pass without open claims
abbrev pub fresh : ℕ → PassView
fresh number = record { number = number; open_claims = 0 }

-- the loaders from 0 on, so many, have a pass each, in the order of their numbers, and none has a claim open
pub record AreFresh (count : ℕ) (passes : List PassView) : Type 0 where
  pub all : length passes ≡ count
  pub each : (k : ℕ) (d : PassView) → k < count → slice_index_or passes k d ≡ fresh k

-- the passes have a part of the ledger each, and this rest has the other parts and no claim open
pub record HasOtherParts (parts : ℕ) (passes : List PassView) (rest amount : ℕ) : Type 0 where
  pub parts_of_all : rest + length passes ≡ parts
  pub none_open : amount ≡ 0
