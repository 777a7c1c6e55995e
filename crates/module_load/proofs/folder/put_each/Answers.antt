-- One import on.
use Rattle.std.proofs.Common.{[]}
use Rattle.py_tree.specs.declared.statement.Import.{Import}
use Rattle.import_graph.specs.declared.imports.ImportRow.{ImportRow}
use Rattle.module_load.specs.Folders.{direct_import, names_of}
use Rattle.module_load.proofs.Folders.{kept_turn}
use Rattle.module_load.proofs.folder.put_each.Goals as goal

pub loop-import-preserved : goal.loop-import-preserved
loop-import-preserved c =
    let row : Import → ImportRow = λ i. record { line = c.args.line; «module» = i.name; names = [] } in
    kept_turn row (direct_import (names_of c.args.list.now)) c.args.names.now c.loop-import.import-index c.import-item.result _ _ _ c.loop-import-test.true c.import-item.is c.in_ok-put_named.ensures c.loop-import.invariant
