use Rattle.records.proofs.RecordsLaws.{room_full, room_other}
use Rattle.records.proofs.Record.no_room.Goals as goal

pub returns-in-SignOn : goal.returns-in-SignOn
returns-in-SignOn c = search room_full

pub returns-in-Report : goal.returns-in-Report
returns-in-Report c = search room_other
