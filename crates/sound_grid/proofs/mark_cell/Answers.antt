use borrow.Author.Rules.{rules}
use Rattle.sound_grid.proofs.TileLaws.{cell_start, cell_turn, cell_end}
use Rattle.sound_grid.proofs.mark_cell.Goals as goal

pub loop-j-init : goal.loop-j-init
loop-j-init c = (search rules, search cell_start)

pub loop-j-preserved : goal.loop-j-preserved
loop-j-preserved c = (search rules, search cell_turn)

pub returns : goal.returns
returns c = search cell_end
