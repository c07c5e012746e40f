use Rattle.sound_rows.proofs.ColumnsLaws.{dated_start, dated_turn, dated_end}
use Rattle.sound_rows.proofs.are_dated.Goals as goal

pub loop-i-init : goal.loop-i-init
loop-i-init c = search dated_start

pub loop-i-preserved : goal.loop-i-preserved
loop-i-preserved c = search dated_turn

pub returns : goal.returns
returns c = search dated_end
