use Rattle.sound_balance.proofs.DueLaws.{on_start, on_radio, on_turn, on_end}
use Rattle.sound_balance.proofs.on_due.Goals as goal

pub loop-i-init : goal.loop-i-init
loop-i-init c = search on_start

pub radio_index-requires : goal.radio_index-requires
radio_index-requires c = on_radio _ c.loop-i.invariant c.told-radios c.requires.0 c.loop-i-test.true

pub loop-i-preserved : goal.loop-i-preserved
loop-i-preserved c = search on_turn

pub returns : goal.returns
returns c = search on_end
