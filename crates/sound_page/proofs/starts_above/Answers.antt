use Rattle.sound_page.proofs.CodeLaws.{starts_none, starts_first}
use Rattle.sound_page.proofs.starts_above.Goals as goal

pub returns-then-n-eq0 : goal.returns-then-n-eq0
returns-then-n-eq0 c = search starts_none

pub returns : goal.returns
returns c = search starts_first
