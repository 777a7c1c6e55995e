use Rattle.std.proofs.Common.{take}
use Rattle.module_load.specs.Folders.{names_of}
use Rattle.module_load.specs.NamePlaces.{AreNumbersOf}
use Rattle.module_load.proofs.folder.numbers_of.Given as goal

abbrev pub invariant-loop-number : goal.invariant-loop-number
invariant-loop-number l = AreNumbersOf l.numbers (names_of (take l.number l.list))
