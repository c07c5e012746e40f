use Rattle.box_due.proofs.CrowdingLaws.{CrowdingAt}
use Rattle.box_due.proofs.crowd_of.Given as goal

-- The first i reports are counted (`CrowdingAt`).
abbrev pub invariant-loop-i : goal.invariant-loop-i
invariant-loop-i l = CrowdingAt l.n l.at l.i l.crowd
