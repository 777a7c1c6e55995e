use Rattle.std.proofs.Common.{◌≡◌, ◌++◌, drop}
use Rattle.py_tree.specs.Joined.{statements_of}
use Rattle.py_tree.specs.TopPart as top
use Rattle.symbols.specs.Faults as spec
use Rattle.symbols.specs.Located.{located}
use Rattle.symbols.proofs.imports.late_imports.Given as goal

abbrev pub invariant-loop-known : goal.invariant-loop-known
invariant-loop-known l = l.lines ++ spec.imports_of (located (drop l.known-index l.functions)) ≡ spec.import_lines (top.below_top_part (statements_of l.body)) ++ spec.imports_of (located l.functions)
