use Rattle.box_due.proofs.DueLaws.{fuller_other, fuller_same}
use Rattle.box_due.proofs.fuller.Goals as goal

pub returns-then-leader-has : goal.returns-then-leader-has
returns-then-leader-has c = search fuller_other

pub returns : goal.returns
returns c = search fuller_same
