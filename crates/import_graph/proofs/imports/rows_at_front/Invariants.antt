use Rattle.std.proofs.Common.{◌≡◌, ◌++◌, drop}
use Rattle.std.specs.List.{flat_map}
use Rattle.py_tree.specs.Joined.{statements_of}
use Rattle.py_tree.specs.TopPart.{imports_at_front}
use Rattle.import_graph.specs.Imports.{rows_of}
use Rattle.import_graph.proofs.imports.rows_at_front.Given as goal

abbrev pub invariant-loop-statement : goal.invariant-loop-statement
invariant-loop-statement l = l.rows ++ flat_map rows_of (imports_at_front (statements_of (drop l.statement-index l.body))) ≡ flat_map rows_of (imports_at_front (statements_of l.body))
