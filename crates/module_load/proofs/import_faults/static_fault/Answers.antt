-- One import on.
use Rattle.std.proofs.Common.{subst}
use Rattle.py_tree.specs.declared.code.Code.TheVariants.{NoSuchName}
use Rattle.py_tree.specs.declared.statement.Import.{Import}
use Rattle.symbols.specs.FirstFaults.{IsFirstOf}
use Rattle.module_load.specs.Imports.{unless, is_own_static}
use Rattle.module_load.specs.Preparing.{fault}
use Rattle.module_load.proofs.FirstOnes.{first_with}
use Rattle.module_load.proofs.import_faults.static_fault.Goals as goal

pub loop-import-preserved : goal.loop-import-preserved
loop-import-preserved c =
    let faults = λ (i : Import). unless (is_own_static c.args.importing i.name) (fault c.args.line NoSuchName) in
    let here = subst (λ is_there. IsFirstOf (unless is_there (fault c.args.line NoSuchName)) c.fault_unless.result) (cc) c.fault_unless.ensures in
    rw c.earlier-first.ensures (first_with faults c.args.names.now c.loop-import.import-index c.import-item.result c.loop-import.first c.fault_unless.result c.loop-import-test.true c.import-item.is c.loop-import.invariant here)
