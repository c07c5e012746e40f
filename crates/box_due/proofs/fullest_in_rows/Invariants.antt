use Rattle.box_due.proofs.DueLaws.{InRows}
use Rattle.box_due.proofs.fullest_in_rows.Given as goal

-- The fullest of the first `north` rows, from the south-west corner on.
abbrev pub invariant-loop-north : goal.invariant-loop-north
invariant-loop-north l = InRows l.crowd l.columns l.north l.most
