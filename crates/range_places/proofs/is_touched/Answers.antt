use Rattle.lists.proofs.TestsLaws.{both_tell}
use Rattle.range_places.specs.Places.{touches}
use Rattle.range_places.proofs.is_touched.Goals as goal

pub returns : goal.returns
unfolding touches
returns c = search both_tell
