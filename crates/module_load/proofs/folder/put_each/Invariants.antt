use Rattle.std.proofs.Common.{◌≡◌, ◌++◌, [], map, take}
use Rattle.std.specs.List.{filter_map}
use Rattle.py_tree.specs.declared.statement.Import.{Import}
use Rattle.module_load.specs.Folders.{direct_import, names_of}
use Rattle.module_load.proofs.folder.put_each.Given as goal

abbrev pub invariant-loop-import : goal.invariant-loop-import
invariant-loop-import l = l.direct ≡ l.initial.direct ++ filter_map (direct_import (names_of l.list)) (map (λ (i : Import). record { line = l.line; «module» = i.name; names = [] }) (take l.import-index l.names))
