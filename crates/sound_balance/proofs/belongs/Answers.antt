use Rattle.lists.proofs.TestsLaws.{or_either}
use Rattle.sound_balance.proofs.belongs.Goals as goal

pub returns : goal.returns
returns c = search or_either
