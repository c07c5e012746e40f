use Rattle.sound_directory.proofs.JoinedLaws.{join_start, join_turn, join_end}
use Rattle.sound_directory.proofs.DirectoryLaws.{cell_unused}
use Rattle.sound_directory.proofs.cells_unused.Goals as goal

pub loop-cell-init : goal.loop-cell-init
loop-cell-init c = join_start _ _

pub loop-cell-preserved : goal.loop-cell-preserved
loop-cell-preserved c =
    join_turn _ _ _ _ c.loop-cell.invariant (record { number = 0; west = 0; east = 0; south = 0; north = 0; first = 0 }) c.loop-cell-test.true _ _ (cell_unused _ _ _ c.joined-fronts.ensures c.joined-backs.ensures)

pub returns : goal.returns
returns c = join_end _ _ _ _ c.loop-cell.invariant c.loop-cell-test.false
