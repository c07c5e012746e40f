use Rattle.sound_rows.proofs.CodeLaws.{waiting_long, waiting_unclear, waiting_tested}
use Rattle.sound_rows.proofs.waiting_sound.Goals as goal

pub returns-then-n-gt-MAX_WAITING : goal.returns-then-n-gt-MAX_WAITING
returns-then-n-gt-MAX_WAITING c = search waiting_long

pub returns-then-not-reports_clear : goal.returns-then-not-reports_clear
returns-then-not-reports_clear c = search waiting_unclear

pub returns : goal.returns
returns c = search waiting_tested
