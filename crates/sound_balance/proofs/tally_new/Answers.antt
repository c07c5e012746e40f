use Rattle.sound_balance.proofs.TableLaws.{Adding_start}
use Rattle.sound_balance.proofs.DueLaws.{Belonging_start, new_radio, new_turn, new_end, Belonging_turn, Belonging_end}
use Rattle.sound_balance.proofs.tally_new.Goals as goal

pub loop-i-init : goal.loop-i-init
loop-i-init c = (search Adding_start, search Belonging_start)

pub radio_index-k-requires : goal.radio_index-k-requires
radio_index-k-requires c = search new_radio

pub loop-i-preserved : goal.loop-i-preserved
loop-i-preserved c = (search new_turn, search Belonging_turn)

pub returns : goal.returns
returns c = (search new_end, search Belonging_end)
