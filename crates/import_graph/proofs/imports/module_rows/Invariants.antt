use Rattle.std.proofs.Common.{◌≡◌, [], map, take}
use Rattle.py_tree.specs.declared.statement.Import.{Import}
use Rattle.import_graph.proofs.imports.module_rows.Given as goal

abbrev pub invariant-loop-import : goal.invariant-loop-import
invariant-loop-import l = l.rows ≡ map (λ (i : Import). record { line = l.line; «module» = i.name; names = [] }) (take l.import-index l.names)
