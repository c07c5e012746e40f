use Rattle.csv_reader.proofs.EndLaws.{bytes_none, bytes_there}
use Rattle.csv_reader.proofs.bytes_end.Goals as goal

pub returns-then-not-starts_with : goal.returns-then-not-starts_with
returns-then-not-starts_with c = search (bytes_none, c.starts_with.ensures.value)

pub returns : goal.returns
returns c = search (bytes_there, c.starts_with.ensures.value)
