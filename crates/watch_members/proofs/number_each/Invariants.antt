use Rattle.watch_members.proofs.NumbersLaws.{Numbered}
use Rattle.watch_members.proofs.number_each.Given as goal

-- From watch 15 down: each number has the bits of the watches from w on (`Numbered`).
abbrev pub invariant-loop-w : goal.invariant-loop-w
invariant-loop-w l = Numbered l.watches l.easts l.norths l.n l.w l.numbers
