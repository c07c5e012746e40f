use Rattle.desk.proofs.ReportsLaws.{report_read}
use Rattle.desk.proofs.report_at.Goals as goal

pub returns : goal.returns
returns c = search report_read
