use Rattle.lists.proofs.TestsLaws.{and_both, both_tell, either_tell}
use Rattle.range_places.proofs.is_meeting.Goals as goal

pub returns : goal.returns
returns c = either_tell _ _ c.takes_in.ensures (both_tell _ _ (and_both _ _) c.takes_in-2.ensures)
