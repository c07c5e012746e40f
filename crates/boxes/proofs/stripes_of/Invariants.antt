use Rattle.boxes.proofs.StripesLaws.{StripedBy}
use Rattle.boxes.proofs.stripes_of.Given as goal

-- The stripes by the cuts so far (`StripedBy`).
abbrev pub invariant-loop-cut : goal.invariant-loop-cut
invariant-loop-cut l = StripedBy l.fn.cuts l.waiting l.column l.cut-index l.stripes
