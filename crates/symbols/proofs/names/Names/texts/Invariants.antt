use Rattle.std.proofs.Common.{◌≡◌, take}
use Rattle.symbols.proofs.Sets.{pointed}
use Rattle.symbols.proofs.names.Names.texts.Given as goal

abbrev pub invariant-loop-name : goal.invariant-loop-name
invariant-loop-name l = l.texts ≡ pointed (take l.name-index l.name-items)
