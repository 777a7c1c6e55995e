use Rattle.module_load.specs.Preparing.{fault}
use Rattle.module_load.proofs.FirstOnes.{first_alone}
use Rattle.module_load.proofs.import_faults.fault_unless.Goals as goal

pub returns-else-holds : goal.returns-else-holds
returns-else-holds c = rw c.if-holds.false (first_alone (fault c.args.line c.args.code))
