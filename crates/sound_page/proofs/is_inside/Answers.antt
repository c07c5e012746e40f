use Rattle.lists.proofs.TestsLaws.{both_tell}
use Rattle.sound_page.proofs.is_inside.Goals as goal

pub returns : goal.returns
returns c = search both_tell
