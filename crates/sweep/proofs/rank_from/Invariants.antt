use Prim.Native.Nat.{◌≤◌}
use Rattle.lists.specs.Rows.{rank}
use Rattle.sweep.specs.Sweep.{rows_in}
use Rattle.sweep.proofs.rank_from.Given as goal

-- The lines before `at` are of radios below: `at` has not come past the rank.
abbrev pub invariant-loop-at : goal.invariant-loop-at
invariant-loop-at l = l.at ≤ rank l.radio (rows_in l.lines)
