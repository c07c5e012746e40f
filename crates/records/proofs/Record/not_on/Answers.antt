use Rattle.records.proofs.RecordsLaws.{not_on_named, not_on_other}
use Rattle.records.proofs.Record.not_on.Goals as goal

pub returns-in-Report : goal.returns-in-Report
returns-in-Report c = search not_on_named

pub returns-in-SignOn : goal.returns-in-SignOn
returns-in-SignOn c = search not_on_other
