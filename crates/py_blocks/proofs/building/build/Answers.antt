use Rattle.std.proofs.Common.{◌≡◌, IfOk, reverse, subst}
use Rattle.py_blocks.specs.Rows.{rows_of}
use Rattle.py_blocks.proofs.Answering as answering
use Rattle.py_blocks.proofs.Reading.{right_forms, right_lawful}
use Rattle.py_blocks.proofs.building.build.Goals as goal

pub returns-in-Ok-clause-exact : goal.returns-in-Ok-clause-exact
returns-in-Ok-clause-exact c =
    let turned = subst (λ r. IfOk r (λ turned. turned ≡ reverse c.args.forms)) c.in-Ok.is c.last_first.ensures in
    answering.exact (rows_of c.args.forms) c.read_all.result (right_forms c.args.forms c.in-Ok.left c.read_all.result turned c.read_all.ensures)

pub returns-in-Ok-clause-lawful : goal.returns-in-Ok-clause-lawful
returns-in-Ok-clause-lawful c =
    let turned = subst (λ r. IfOk r (λ turned. turned ≡ reverse c.args.forms)) c.in-Ok.is c.last_first.ensures in
    right_lawful (rows_of c.args.forms) c.read_all.result (right_forms c.args.forms c.in-Ok.left c.read_all.result turned c.read_all.ensures)
