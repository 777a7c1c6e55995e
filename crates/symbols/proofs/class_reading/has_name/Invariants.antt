use Rattle.std.proofs.Common.{◌≡◌, drop}
use Rattle.symbols.specs.Words.{among}
use Rattle.symbols.proofs.class_reading.has_name.Given as goal

abbrev pub invariant-loop-other : goal.invariant-loop-other
invariant-loop-other l = among l.name (drop l.other-index l.names) ≡ among l.name l.names
