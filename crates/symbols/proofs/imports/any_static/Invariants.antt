use Rattle.std.proofs.Common.{◌≡◌, drop}
use Rattle.std.specs.List.{list_any}
use Rattle.py_tree.specs.Joined.{statements_of}
use Rattle.py_tree.specs.TopPart as top
use Rattle.symbols.specs.ModuleKinds.{imports_static}
use Rattle.symbols.proofs.imports.any_static.Given as goal

abbrev pub invariant-loop-statement : goal.invariant-loop-statement
invariant-loop-statement l = list_any imports_static (top.imports_at_front (statements_of (drop l.statement-index l.body))) ≡ list_any imports_static (top.imports_at_front (statements_of l.body))
