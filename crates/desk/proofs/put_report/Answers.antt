use Rattle.desk.proofs.ReportsLaws.{report_written}
use Rattle.desk.proofs.put_report.Goals as goal

pub returns : goal.returns
returns c = search report_written
