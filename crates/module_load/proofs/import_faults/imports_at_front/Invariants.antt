use Rattle.std.proofs.Common.{◌≡◌, ◌++◌, drop, map, take}
use Rattle.py_tree.specs.Joined.{statement_of, statements_of}
use Rattle.py_tree.specs.TopPart as top
use Rattle.module_load.proofs.import_faults.imports_at_front.Given as goal

abbrev pub invariant-loop-place : goal.invariant-loop-place
invariant-loop-place l = map statement_of (take l.place l.body) ++ top.imports_at_front (statements_of (drop l.place l.body)) ≡ top.imports_at_front (statements_of l.body)
