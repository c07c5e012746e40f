use Rattle.sound_grid.proofs.TileLaws.{once_start, once_fails, once_turn, once_end}
use Rattle.sound_grid.proofs.row_once.Goals as goal

pub loop-i-init : goal.loop-i-init
loop-i-init c = search once_start

pub returns-then-table-row-ne-ONCE : goal.returns-then-table-row-ne-ONCE
returns-then-table-row-ne-ONCE c = search once_fails

pub loop-i-preserved : goal.loop-i-preserved
loop-i-preserved c = search once_turn

pub returns : goal.returns
returns c = search once_end
