use Rattle.records.proofs.RecordsLaws.{place_there, place_reported, rect_there, asked_on, asked_report, asked_off, asked_range}
use Rattle.records.proofs.Record.asked.Goals as goal

pub fix-requires : goal.fix-requires
fix-requires c = search place_there

pub fix-requires-in-Report : goal.fix-requires-in-Report
fix-requires-in-Report c = search place_reported

pub rectangle-requires : goal.rectangle-requires
rectangle-requires c = search rect_there

pub returns-in-SignOn : goal.returns-in-SignOn
returns-in-SignOn c = search asked_on

pub returns-in-Report : goal.returns-in-Report
returns-in-Report c = search asked_report

pub returns-in-SignOff : goal.returns-in-SignOff
returns-in-SignOff c = search asked_off

pub returns-in-Range : goal.returns-in-Range
returns-in-Range c = search asked_range
