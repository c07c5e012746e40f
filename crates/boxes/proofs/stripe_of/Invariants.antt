use Rattle.boxes.proofs.BoxLaws.{Passed}
use Rattle.boxes.proofs.stripe_of.Given as goal

-- The cuts passed so far are counted (`Passed`).
abbrev pub invariant-loop-cut : goal.invariant-loop-cut
invariant-loop-cut l = Passed l.fn.cuts l.x l.cut-index l.passed
