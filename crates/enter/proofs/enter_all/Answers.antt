use Rattle.enter.proofs.EnterLaws.{Entering_start, Entering_ready, Entering_turn, Entering_end}
use Rattle.enter.proofs.enter_all.Goals as goal

pub loop-i-init : goal.loop-i-init
loop-i-init c = search Entering_start

pub enter_report-lines-requires : goal.enter_report-lines-requires
enter_report-lines-requires c = search Entering_ready

pub loop-i-preserved : goal.loop-i-preserved
loop-i-preserved c = search Entering_turn

pub returns : goal.returns
returns c = search Entering_end
