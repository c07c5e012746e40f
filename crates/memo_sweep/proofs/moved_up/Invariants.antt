use Prim.Native.Nat.{◌≤◌}
use lib.ListN.{take}
use Rattle.desk.specs.Held.{memo_in}
use Rattle.memo.specs.Memo.{lines_of}
use Rattle.memo_sweep.specs.Lowering.{lower_where, mark_of, MovedUp}
use Rattle.memo_sweep.proofs.moved_up.Given as goal

-- Those of the first i lines that stay are in the first slots, and the slots from i on are as they were (`MovedUp`): what is read next is not written yet.
abbrev pub invariant-loop-i : goal.invariant-loop-i
invariant-loop-i l = (l.k ≤ l.i) × (l.i ≤ l.n) × MovedUp (lower_where (mark_of l.marks (lines_of (memo_in l.n l.initial.lines))) (take l.i (lines_of (memo_in l.n l.initial.lines)))) l.i l.k l.initial.lines l.lines
