use Rattle.memo_sweep.proofs.LowerLaws.{line_kept, line_dropped, line_lowered}
use Rattle.memo_sweep.proofs.lowered_line.Goals as goal

pub returns-then-not-mark : goal.returns-then-not-mark
returns-then-not-mark c = search line_kept

pub returns-then-line-le1 : goal.returns-then-line-le1
returns-then-line-le1 c = search line_dropped

pub returns : goal.returns
returns c = search line_lowered
