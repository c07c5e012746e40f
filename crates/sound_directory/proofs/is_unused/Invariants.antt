use Rattle.sound_directory.proofs.LoopLaws.{Passed}
use Rattle.sound_directory.proofs.is_unused.Given as goal

-- With whether the rest are, the verdict so far is the test (`Passed`).
abbrev pub invariant-loop-slot : goal.invariant-loop-slot
invariant-loop-slot g l = Passed (λ x. g.T.PartialEq.eq x l.unused) l.slots l.so l.slot-index
