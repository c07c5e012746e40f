use Rattle.latest_fixes.proofs.FixLaws.{cells_start, cells_turn}
use Rattle.latest_fixes.proofs.hold_cells.Goals as goal

pub loop-cell-init : goal.loop-cell-init
loop-cell-init c = cells_start _ _ _ c.args.cells.now _

pub loop-cell-preserved : goal.loop-cell-preserved
loop-cell-preserved c = cells_turn _ _ _ c.args.cells.now _ _ _ c.loop-cell-test.true c.loop-cell.invariant c.tell_cell.ensures
