use Rattle.std.proofs.Common.{◌≡◌, ◌++◌, drop}
use Rattle.symbols.specs.Faults.{coded}
use Rattle.symbols.proofs.first_fault.put_faults.Given as goal

abbrev pub invariant-loop-line : goal.invariant-loop-line
invariant-loop-line l = l.faults ++ coded l.code (drop l.line-index l.lines) ≡ l.initial.faults ++ coded l.code l.lines
