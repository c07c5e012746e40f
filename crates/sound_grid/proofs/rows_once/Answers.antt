use Rattle.sound_grid.proofs.TileLaws.{rows_start, rows_fail, rows_turn, rows_end}
use Rattle.sound_grid.proofs.rows_once.Goals as goal

pub loop-j-init : goal.loop-j-init
loop-j-init c = search rows_start

pub returns-then-not-row_once : goal.returns-then-not-row_once
returns-then-not-row_once c = search rows_fail

pub loop-j-preserved : goal.loop-j-preserved
loop-j-preserved c = search rows_turn

pub returns : goal.returns
returns c = search rows_end
