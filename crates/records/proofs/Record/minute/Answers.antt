use Rattle.records.proofs.RecordsLaws.{minute_inside}
use Rattle.records.proofs.Record.minute.Goals as goal

pub overflow_sub-end : goal.overflow_sub-end
overflow_sub-end c = search minute_inside
