use Rattle.strict_top.proofs.SomeReport.{some_report}
use Rattle.strict_top.proofs.run.every_report.Goals as goal

pub returns : goal.returns
returns c = some_report
