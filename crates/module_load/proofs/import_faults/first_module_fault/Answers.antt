-- One on.
use Rattle.py_tree.specs.declared.statement.Import.{Import}
use Rattle.module_load.specs.Imports as rule
use Rattle.module_load.proofs.FirstOnes.{first_with}
use Rattle.module_load.proofs.import_faults.first_module_fault.Goals as goal

pub loop-import-preserved : goal.loop-import-preserved
loop-import-preserved g c =
    let faults = λ (i : Import). rule.module_faults (g.K.Known.decisions c.args.known.now) c.args.line i.name in
    rw c.earlier-first.ensures (first_with faults c.args.names.now c.loop-import.import-index c.import-item.result c.loop-import.first c.module_fault.result c.loop-import-test.true c.import-item.is c.loop-import.invariant c.module_fault.ensures)
