use Rattle.memo_sweep.proofs.LowerLaws.{Seen}
use Rattle.memo_sweep.proofs.none_marked.Given as goal

-- Whether none of those seen is set (`Seen`).
abbrev pub invariant-loop-mark : goal.invariant-loop-mark
invariant-loop-mark l = Seen l.marks l.mark-index l.so
