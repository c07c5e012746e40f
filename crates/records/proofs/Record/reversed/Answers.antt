use Rattle.records.proofs.RecordsLaws.{rect_there, rect_east, rect_north, rect_other}
use Rattle.records.proofs.Record.reversed.Goals as goal

pub rectangle-area-requires : goal.rectangle-area-requires
rectangle-area-requires c = search rect_there

pub returns-then-area : goal.returns-then-area
returns-then-area c = search rect_east

pub returns-else-area : goal.returns-else-area
returns-else-area c = search rect_north

pub returns-in-SignOn : goal.returns-in-SignOn
returns-in-SignOn c = search rect_other
