use Rattle.records.proofs.RecordsLaws.{radio_zero, radio_above, radio_range}
use Rattle.records.proofs.Record.no_radio.Goals as goal

pub returns-then-radio-eq0 : goal.returns-then-radio-eq0
returns-then-radio-eq0 c = search radio_zero

pub returns-else-radio-eq0 : goal.returns-else-radio-eq0
returns-else-radio-eq0 c = search radio_above

pub returns-in-Range : goal.returns-in-Range
returns-in-Range c = search radio_range
