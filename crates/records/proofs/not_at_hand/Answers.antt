use Rattle.records.proofs.RecordsLaws.{few_bytes, stated_below, stated_above}
use Rattle.records.proofs.not_at_hand.Goals as goal

pub returns-then-bytes-lt-HEAD_BYTES : goal.returns-then-bytes-lt-HEAD_BYTES
returns-then-bytes-lt-HEAD_BYTES c = search few_bytes

pub returns-then-stated-lt-HEAD_BYTES : goal.returns-then-stated-lt-HEAD_BYTES
returns-then-stated-lt-HEAD_BYTES c = search stated_below

pub returns-else-stated-lt-HEAD_BYTES : goal.returns-else-stated-lt-HEAD_BYTES
returns-else-stated-lt-HEAD_BYTES c = search stated_above
