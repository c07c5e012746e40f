use Rattle.sound_grid.proofs.TileLaws.{RowsTo}
use Rattle.sound_grid.proofs.rows_once.Given as goal

-- The rows so far are held once (`RowsTo`).
abbrev pub invariant-loop-j : goal.invariant-loop-j
invariant-loop-j l = RowsTo l.table l.columns l.j
