use Prim.Native.Nat.{◌+◌, ◌≤◌, max}
use Rattle.sound_grid.proofs.TileLaws.{RowMarked}
use Rattle.sound_grid.proofs.mark_row.Given as goal

-- The memory cells so far are held by one more (`RowMarked`).
abbrev pub invariant-loop-i : goal.invariant-loop-i
invariant-loop-i l = (l.i ≤ max l.west (l.east + 1)) × RowMarked l.west l.row l.initial.table l.i l.table
