use Rattle.records.proofs.RecordsLaws.{other_long}
use Rattle.records.proofs.KindTryFromU16.try_from.Goals as goal

pub returns-in_default : goal.returns-in_default
returns-in_default c = search other_long
