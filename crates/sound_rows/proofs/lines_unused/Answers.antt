use Rattle.sound_directory.proofs.JoinedLaws.{join_start, join_turn, join_end}
use Rattle.sound_rows.proofs.CodeLaws.{line_unused}
use Rattle.sound_rows.proofs.lines_unused.Goals as goal

pub loop-line-init : goal.loop-line-init
loop-line-init c = join_start _ _

pub loop-line-preserved : goal.loop-line-preserved
loop-line-preserved c =
    join_turn _ _ _ _ c.loop-line.invariant (record { radio = 0; missed = 0; placed = 0; east = 0; north = 0 }) c.loop-line-test.true _ _ (line_unused _ _ c.joined-fronts.ensures)

pub returns : goal.returns
returns c = join_end _ _ _ _ c.loop-line.invariant c.loop-line-test.false
