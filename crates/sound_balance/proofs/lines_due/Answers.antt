use Rattle.memo_index.proofs.IndexLaws.{index_start, index_radio, index_turn, index_end}
use Rattle.sound_balance.proofs.TableLaws.{Adding_start}
use Rattle.sound_balance.proofs.DueLaws.{missed_turn, missed_end}
use Rattle.sound_balance.proofs.lines_due.Goals as goal

pub loop-i-init : goal.loop-i-init
loop-i-init c = (search Adding_start, search index_start)

pub radio_index-k-requires : goal.radio_index-k-requires
radio_index-k-requires c = search index_radio

pub loop-i-preserved : goal.loop-i-preserved
loop-i-preserved c = (search missed_turn, search index_turn)

pub returns : goal.returns
returns c = let l = index_end _ c.loop-i.invariant.1 c.loop-i-test.false in (search missed_end, l.0, l.1)
