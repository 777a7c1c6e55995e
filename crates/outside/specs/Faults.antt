-- A count of faults, which tells a failure of the outside from a caller that gives up.
use Rattle.std.specs.Prelude.{◌≡◌, ℕ, ◌+◌, ◌-◌, ◌^◌, ◌≤◌, min, Result, Ok, Err}
use Rattle.outside.specs.declared.folder.FolderFault.{FolderFault}
use Rattle.outside.specs.declared.folder.FolderFault.TheVariants as folder
use Rattle.outside.specs.declared.sink.SinkFault.{SinkFault}
use Rattle.outside.specs.declared.sink.SinkFault.TheVariants as sink

-- The count has risen. At its last value it stands still, and counts as risen.
pub record HasRisen (before now : ℕ) : Type 0 where
  pub later : before ≤ now
  pub risen : min (before + 1) (2 ^ 64 - 1) ≤ now

-- What a call of a folder does to its count: a failure comes only where the count has risen, and nothing else changes it.
abbrev pub CountsFolder : {T : Type 0} → Result T FolderFault → ℕ → ℕ → Type 0
CountsFolder (Ok x) before now = now ≡ before
CountsFolder (Err folder.Failed) before now = HasRisen before now
CountsFolder (Err folder.Memory) before now = now ≡ before

-- What a call of a sink does to its count, likewise.
abbrev pub CountsSink : {T : Type 0} → Result T SinkFault → ℕ → ℕ → Type 0
CountsSink (Ok x) before now = now ≡ before
CountsSink (Err sink.Failed) before now = HasRisen before now
CountsSink (Err sink.Memory) before now = now ≡ before
