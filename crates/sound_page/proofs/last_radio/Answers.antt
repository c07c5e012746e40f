use Rattle.sound_page.proofs.CodeLaws.{last_none, last_some}
use Rattle.sound_page.proofs.last_radio.Goals as goal

pub returns-then-n-eq0 : goal.returns-then-n-eq0
returns-then-n-eq0 c = search last_none

pub returns : goal.returns
returns c = search last_some
