use Prim.Native.Nat.{◌+◌, ◌≤◌, max}
use Rattle.sound_grid.proofs.TileLaws.{CellMarked}
use Rattle.sound_grid.proofs.mark_cell.Given as goal

-- The rows so far are held by one more (`CellMarked`).
abbrev pub invariant-loop-j : goal.invariant-loop-j
invariant-loop-j l = (l.j ≤ max l.south (l.north + 1)) × CellMarked l.west l.east l.south l.initial.table l.j l.table
