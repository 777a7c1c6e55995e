use Rattle.std.proofs.Common.{take}
use Rattle.symbols.specs.FirstFaults.{IsFirstOf}
use Rattle.symbols.proofs.first_fault.first_of.Given as goal

abbrev pub invariant-loop-fault : goal.invariant-loop-fault
invariant-loop-fault l = IsFirstOf (take l.fault-index l.faults) l.first
