use Rattle.sound_directory.proofs.JoinedLaws.{Joined}
use Rattle.sound_directory.specs.Sound.{is_unused_cell}
use Rattle.sound_directory.proofs.cells_unused.Given as goal

-- Up to the one at hand, what is joined says whether each is unused (`Joined`).
abbrev pub invariant-loop-cell : goal.invariant-loop-cell
invariant-loop-cell l = Joined is_unused_cell l.cells l.fronts l.backs l.cell-index
