use Rattle.lists.proofs.TestsLaws.{and_both}
use Rattle.sound_directory.proofs.goes_on.Goals as goal

pub returns : goal.returns
returns c = and_both _ _
