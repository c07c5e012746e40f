use Rattle.lists.proofs.TestsLaws.{both_tell}
use Rattle.rectangles.proofs.is_covered.Goals as goal

pub returns : goal.returns
returns c = search both_tell
