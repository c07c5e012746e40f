use Rattle.sound_page.proofs.CodeLaws.{last_page, full_page}
use Rattle.sound_page.proofs.full_or_last.Goals as goal

pub returns-then-h : goal.returns-then-h
returns-then-h c = search last_page

pub returns : goal.returns
returns c = search full_page
