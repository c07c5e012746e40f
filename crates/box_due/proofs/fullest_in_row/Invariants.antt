use Rattle.box_due.proofs.DueLaws.{InRow}
use Rattle.box_due.proofs.fullest_in_row.Given as goal

-- The fullest of the leader and the first `east` of the row.
abbrev pub invariant-loop-east : goal.invariant-loop-east
invariant-loop-east l = InRow l.crowd l.initial.most l.north l.east l.most
