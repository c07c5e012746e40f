use Rattle.directory.proofs.NumberLaws.{mark_start, number_below, mark_turn, mark_end}
use Rattle.directory.proofs.used_numbers.Goals as goal

pub loop-cell-init : goal.loop-cell-init
loop-cell-init c = mark_start c.args.cells.now

pub bounds-used-cell : goal.bounds-used-cell
bounds-used-cell c = search number_below

pub loop-cell-preserved : goal.loop-cell-preserved
loop-cell-preserved c = search mark_turn

pub returns : goal.returns
returns c = search mark_end
