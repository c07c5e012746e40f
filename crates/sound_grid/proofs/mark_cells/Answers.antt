use Rattle.sound_grid.proofs.LoopLaws.{pass_start}
use Rattle.sound_grid.proofs.GridLaws.{edges_fail, edges_turn, edges_end}
use Rattle.sound_grid.proofs.TileLaws.{raised_not, Marked_start, Marked_turn, Marked_end}
use Rattle.sound_grid.proofs.mark_cells.Goals as goal

pub loop-cell-init : goal.loop-cell-init
loop-cell-init c = (search pass_start, search Marked_start)

pub returns-then-not-mark_slot : goal.returns-then-not-mark_slot
returns-then-not-mark_slot c = (search edges_fail, search raised_not)

pub loop-cell-preserved : goal.loop-cell-preserved
loop-cell-preserved c = (search edges_turn, search Marked_turn)

pub returns : goal.returns
returns c = (search edges_end, search Marked_end)
