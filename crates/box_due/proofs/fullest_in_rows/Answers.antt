use Rattle.box_due.proofs.DueLaws.{rows_start, rows_turn, rows_end}
use Rattle.box_due.proofs.fullest_in_rows.Goals as goal

pub loop-north-init : goal.loop-north-init
loop-north-init c = rows_start _ _

pub loop-north-preserved : goal.loop-north-preserved
loop-north-preserved c = search rows_turn

pub returns : goal.returns
returns c = search rows_end
