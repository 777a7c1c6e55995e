use Rattle.std.proofs.Common.{◌≡◌, ◌++◌, drop}
use Rattle.symbols.specs.ClassViews.{founds}
use Rattle.symbols.specs.Faults as spec
use Rattle.symbols.proofs.class_faults.bad_lines.Given as goal

abbrev pub invariant-loop-class : goal.invariant-loop-class
invariant-loop-class l = l.lines ++ spec.bad_lines (drop l.class-index (founds l.classes)) ≡ spec.bad_lines (founds l.classes)
