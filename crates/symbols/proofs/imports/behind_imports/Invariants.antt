use Rattle.std.proofs.Common.{◌≡◌, drop}
use Rattle.py_tree.specs.Joined.{statements_of}
use Rattle.py_tree.specs.TopPart as top
use Rattle.symbols.proofs.imports.behind_imports.Given as goal

abbrev pub invariant-loop-place : goal.invariant-loop-place
invariant-loop-place l = top.behind_imports (statements_of (drop l.place l.body)) ≡ top.behind_imports (statements_of l.body)
