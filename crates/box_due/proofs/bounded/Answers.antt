use Rattle.box_due.proofs.ReachLaws.{bounded_high, bounded_low}
use Rattle.box_due.proofs.bounded.Goals as goal

pub returns-then-x-cut : goal.returns-then-x-cut
returns-then-x-cut c = search bounded_high

pub returns : goal.returns
returns c = search bounded_low
