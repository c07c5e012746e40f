use Rattle.lists.proofs.TestsLaws.{or_either}
use Rattle.rectangles.proofs.is_reversed.Goals as goal

pub returns : goal.returns
returns c = or_either _ _
