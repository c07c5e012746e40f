use Rattle.latest_fixes.proofs.SeatLaws.{Seating}
use Rattle.latest_fixes.proofs.seat_all.Given as goal

-- The radios passed stand where they say.
abbrev pub invariant-loop-i : goal.invariant-loop-i
invariant-loop-i l = Seating l.radios l.i l.seats
