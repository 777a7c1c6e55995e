use Rattle.strict_top.proofs.OneReport.{one_report}
use Rattle.strict_top.proofs.run.one_report.Goals as goal

pub returns : goal.returns
returns c = one_report
