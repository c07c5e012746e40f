use Rattle.sound_directory.proofs.LoopLaws.{rise_start, rise_turn, rise_end}
use Rattle.sound_directory.proofs.rises.Goals as goal

pub loop-x-init : goal.loop-x-init
loop-x-init c = search rise_start

pub loop-x-preserved : goal.loop-x-preserved
loop-x-preserved c = search rise_turn

pub returns : goal.returns
returns c = search rise_end
