use mathlib.Core.Path.{refl}
use Rattle.sound_page.proofs.CodeLaws.{belong_no, belong_turn, belong_end}
use Rattle.sound_page.proofs.all_belong.Goals as goal

pub loop-i-init : goal.loop-i-init
loop-i-init c = refl

pub returns-then-not-belongs : goal.returns-then-not-belongs
returns-then-not-belongs c = search belong_no

pub loop-i-preserved : goal.loop-i-preserved
loop-i-preserved c = search belong_turn

pub returns : goal.returns
returns c = search belong_end
