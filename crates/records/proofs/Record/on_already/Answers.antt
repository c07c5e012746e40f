use Rattle.records.proofs.RecordsLaws.{already_on, already_other}
use Rattle.records.proofs.Record.on_already.Goals as goal

pub returns-in-SignOn : goal.returns-in-SignOn
returns-in-SignOn c = search already_on

pub returns-in-Report : goal.returns-in-Report
returns-in-Report c = search already_other
