use Prim.Native.Nat.{◌≤◌}
use Rattle.desk.specs.Held.{waiting_with}
use Rattle.box_due.proofs.ReachLaws.{Near}
use Rattle.box_due.proofs.waiting_at.Given as goal

-- Those of the first i within reach are counted (`Near`).
abbrev pub invariant-loop-i : goal.invariant-loop-i
invariant-loop-i l = (l.found ≤ l.i) × Near l.east_reach l.north_reach (waiting_with l.n l.waiting) l.i l.found
