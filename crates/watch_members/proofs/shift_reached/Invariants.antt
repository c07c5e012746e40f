use Rattle.desk.specs.Views.{rect_of}
use Rattle.watch_members.proofs.NumbersLaws.{Shifted}
use Rattle.watch_members.proofs.shift_reached.Given as goal

-- The first i numbers have one bit more (`Shifted`).
abbrev pub invariant-loop-i : goal.invariant-loop-i
invariant-loop-i l = Shifted (rect_of l.area) l.easts l.norths l.fn.numbers l.i l.numbers
