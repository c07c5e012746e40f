use Prim.Native.Nat.{◌≤◌}
use Rattle.range.proofs.ListLaws.{Kept}
use Rattle.range.proofs.found_on.Given as goal

-- Of the radios passed those that have a place are kept.
abbrev pub invariant-loop-i : goal.invariant-loop-i
invariant-loop-i l = (l.kept ≤ l.i) × Kept l.table l.radios l.n l.i l.kept l.found
