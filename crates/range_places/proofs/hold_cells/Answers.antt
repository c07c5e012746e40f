use borrow.Author.Rules.{rules}
use Rattle.range_places.proofs.TableLaws.{cells_start, cells_turn, slot_touched, slot_skipped}
use Rattle.range_places.proofs.hold_cells.Goals as goal
use Rattle.range_places.proofs.hold_cells.Goals.{then-is_touched, else-is_touched}

pub loop-cell-init : goal.loop-cell-init
loop-cell-init c = cells_start _ _ _ _

pub loop-cell-preserved : goal.loop-cell-preserved
loop-cell-preserved c =
    cells_turn _ _ _ c.args.cells.now c.loop-cell.cell-index c.loop-cell.table c.if-is_touched.table _ (search rules) c.loop-cell.invariant
    (elim c.if-is_touched.branch [
      | then-is_touched w ↦ rw w.table-is (slot_touched _ _ _ _ c.is_touched.ensures _ _ w.if-is_touched.true w.tell_cell.ensures)
      | else-is_touched w ↦ rw w.table-is (slot_skipped _ _ _ _ c.is_touched.ensures _ w.if-is_touched.false)
    ])
