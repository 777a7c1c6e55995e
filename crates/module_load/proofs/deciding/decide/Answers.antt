use Rattle.py_tree.specs.Joined.{module_of}
use Rattle.module_load.specs.declared.verdict.Verdict.TheVariants.{Published, Refused}
use Rattle.module_load.proofs.OneDecision.{one_decision}
use Rattle.module_load.proofs.deciding.decide.Goals as goal

pub returns-in-Ok-clause-exact : goal.returns-in-Ok-clause-exact
returns-in-Ok-clause-exact g c decision h = one_decision (g.K.Known.decisions c.args.known.now) c.args.name.now c.args.number (module_of c.args.tree.now) decision (Published c.in-Ok.globals) h c.in-Ok.ensures

pub returns-in-Err-Fault-clause-exact : goal.returns-in-Err-Fault-clause-exact
returns-in-Err-Fault-clause-exact g c decision h =
    let so = rw c.in-Err-Fault.field-0-is at c.in-Err-Fault.ensures in
    one_decision (g.K.Known.decisions c.args.known.now) c.args.name.now c.args.number (module_of c.args.tree.now) decision (Refused c.in-Err-Fault.fault) h so
