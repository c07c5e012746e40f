use Rattle.box_due.proofs.ReachLaws.{Reached}
use Rattle.box_due.proofs.reach_of.Given as goal

-- How far the stripe reaches by the cuts so far (`Reached`).
abbrev pub invariant-loop-cut : goal.invariant-loop-cut
invariant-loop-cut l = Reached l.fn.cuts l.x l.cut-index l.reach
