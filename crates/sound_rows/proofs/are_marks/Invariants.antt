use Rattle.sound_directory.proofs.LoopLaws.{Passed}
use Rattle.sound_rows.specs.Sound.{is_mark}
use Rattle.sound_rows.proofs.are_marks.Given as goal

-- With whether the rest are, the verdict so far is the test (`Passed`).
abbrev pub invariant-loop-mark : goal.invariant-loop-mark
invariant-loop-mark l = Passed is_mark l.marks l.so l.mark-index
