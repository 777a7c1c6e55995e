use Rattle.std.proofs.Common.{◌≡◌, map, take}
use Rattle.py_tree.specs.declared.statement.Import.{Import}
use Rattle.import_graph.proofs.imports.taken_names.Given as goal

abbrev pub invariant-loop-import : goal.invariant-loop-import
invariant-loop-import l = l.taken ≡ map (λ (i : Import). i.name) (take l.import-index l.names)
