use Rattle.std.proofs.Common.{◌≡◌, ◌++◌, drop}
use Rattle.key_map.proofs.copying.+copy.Given as goal

-- what was copied, and what is left to copy
abbrev pub invariant-copy_all-loop-key : goal.invariant-copy_all-loop-key
invariant-copy_all-loop-key l = l.copies ++ drop l.key-index l.keys ≡ l.keys
