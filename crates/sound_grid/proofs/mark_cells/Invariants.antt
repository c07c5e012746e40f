use Rattle.sound_grid.proofs.LoopLaws.{Passes}
use Rattle.sound_grid.proofs.GridLaws.{edged}
use Rattle.sound_grid.proofs.TileLaws.{Marked}
use Rattle.sound_grid.proofs.mark_cells.Given as goal

-- What is left to test is the test (`Passes`), and the cells so far have added theirs (`Marked`).
abbrev pub invariant-loop-cell : goal.invariant-loop-cell
invariant-loop-cell l = Passes (edged l.easts l.norths) l.cells l.cell-index × Marked l.easts l.norths l.cells l.initial.table l.cell-index l.table
