use Rattle.sound_grid.proofs.TileLaws.{RowTo}
use Rattle.sound_grid.proofs.row_once.Given as goal

-- The memory cells so far are held once (`RowTo`).
abbrev pub invariant-loop-i : goal.invariant-loop-i
invariant-loop-i l = RowTo l.table l.row l.i
