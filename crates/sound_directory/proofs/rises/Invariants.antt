use Rattle.sound_directory.proofs.LoopLaws.{Rises}
use Rattle.sound_directory.proofs.rises.Given as goal

-- With what is left to test, from the last number on, the verdict so far is the test (`Rises`).
abbrev pub invariant-loop-x : goal.invariant-loop-x
invariant-loop-x l = Rises l.top l.numbers l.so l.last l.x-index
