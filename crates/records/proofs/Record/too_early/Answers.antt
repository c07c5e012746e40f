use Rattle.records.proofs.RecordsLaws.{early_told}
use Rattle.records.proofs.Record.too_early.Goals as goal

pub returns : goal.returns
returns c = search early_told
