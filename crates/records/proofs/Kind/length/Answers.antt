use Rattle.records.proofs.RecordsLaws.{sign_on_long, report_long, sign_off_long, range_long}
use Rattle.records.proofs.Kind.length.Goals as goal

-- Each case is a row of the record table.
pub returns-in-SignOn : goal.returns-in-SignOn
returns-in-SignOn c = rw c.in-SignOn.is sign_on_long

pub returns-in-Report : goal.returns-in-Report
returns-in-Report c = rw c.in-Report.is report_long

pub returns-in-SignOff : goal.returns-in-SignOff
returns-in-SignOff c = rw c.in-SignOff.is sign_off_long

pub returns-in-Range : goal.returns-in-Range
returns-in-Range c = rw c.in-Range.is range_long
