use Rattle.sound_balance.proofs.SettledLaws.{settled_start, settled_turn, settled_end}
use Rattle.sound_balance.proofs.all_settled.Goals as goal

pub loop-number-init : goal.loop-number-init
loop-number-init c = search settled_start

pub loop-number-preserved : goal.loop-number-preserved
loop-number-preserved c = search settled_turn

pub returns : goal.returns
returns c = search settled_end
