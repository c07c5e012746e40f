use Rattle.sound_page.proofs.CodeLaws.{next_is}
use Rattle.sound_page.proofs.next_of.Goals as goal

pub returns : goal.returns
returns c = search next_is
