use Rattle.std.proofs.Common.{◌≡◌, ◌++◌, drop}
use Rattle.symbols.specs.ClassViews.{founds}
use Rattle.symbols.specs.Faults as spec
use Rattle.symbols.proofs.class_faults.clash_lines.Given as goal

abbrev pub invariant-loop-number : goal.invariant-loop-number
invariant-loop-number l = l.lines ++ spec.clash_lines (drop l.number (founds l.classes)) ≡ spec.clash_lines (founds l.classes)
