use borrow.Author.Rules.{rules}
use Rattle.sound_grid.proofs.TileLaws.{row_start, row_turn, row_end}
use Rattle.sound_grid.proofs.mark_row.Goals as goal

pub loop-i-init : goal.loop-i-init
loop-i-init c = (search rules, search row_start)

pub loop-i-preserved : goal.loop-i-preserved
loop-i-preserved c = (search rules, search row_turn)

pub returns : goal.returns
returns c = search row_end
