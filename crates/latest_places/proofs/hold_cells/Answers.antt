use borrow.Author.Rules.{rules}
use Rattle.desk.specs.Layout.{no_slot}
use Rattle.range_places.specs.Places.{slot_over}
use Rattle.latest_places.specs.Latest.{anywhere, unjudged}
use Rattle.latest_places.proofs.TellLaws.{over_none, over_next, cell_told, cell_radios}
use Rattle.latest_places.proofs.hold_cells.Goals as goal

pub loop-cell-init : goal.loop-cell-init
loop-cell-init c = over_none (slot_over unjudged c.args.pages.now anywhere) _

pub tell_cell-requires : goal.tell_cell-requires
tell_cell-requires c = cell_radios _ _ _ c.requires (search rules)

pub loop-cell-preserved : goal.loop-cell-preserved
loop-cell-preserved c = over_next (slot_over unjudged c.args.pages.now anywhere) c.args.cells.now c.loop-cell.cell-index no_slot _ _ _ (search rules) c.loop-cell.invariant (cell_told _ _ _ _ c.tell_cell.ensures)
