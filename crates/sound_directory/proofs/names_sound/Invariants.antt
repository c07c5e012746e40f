use Rattle.sound_directory.proofs.DirectoryLaws.{Marked}
use Rattle.sound_directory.proofs.names_sound.Given as goal

-- Each number so far has set its own mark (`Marked`).
abbrev pub invariant-loop-cell : goal.invariant-loop-cell
invariant-loop-cell l = Marked l.cells l.cell-index l.marks
