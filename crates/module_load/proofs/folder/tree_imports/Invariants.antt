use Rattle.std.proofs.Common.{◌≡◌, map, take}
use Rattle.std.specs.List.{filter_map, flat_map}
use Rattle.py_tree.specs.Joined.{statement_of}
use Rattle.import_graph.specs.Imports.{rows_of}
use Rattle.module_load.specs.Folders.{direct_import, names_of}
use Rattle.module_load.proofs.folder.tree_imports.Given as goal

abbrev pub invariant-loop-statement : goal.invariant-loop-statement
invariant-loop-statement l = l.direct ≡ filter_map (direct_import (names_of l.list)) (flat_map rows_of (map statement_of (take l.statement-index l.statement-items)))
