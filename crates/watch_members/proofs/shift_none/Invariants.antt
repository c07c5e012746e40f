use Rattle.watch_members.proofs.NumbersLaws.{Changed, doubled}
use Rattle.watch_members.proofs.shift_none.Given as goal

-- The first i numbers are doubled.
abbrev pub invariant-loop-i : goal.invariant-loop-i
invariant-loop-i l = Changed (doubled l.fn.numbers) l.fn.numbers l.i l.numbers
