use Rattle.desk.specs.Held.{waiting_with}
use Rattle.enter.specs.Enter.{held_in}
use Rattle.enter.proofs.EnterLaws.{Entering}
use Rattle.enter.proofs.enter_all.Given as goal

-- The first i of the reports are entered.
abbrev pub invariant-loop-i : goal.invariant-loop-i
invariant-loop-i l = Entering (waiting_with l.gone l.reports) (held_in l.fn.table l.fn.lines l.fn.memo) l.i (held_in l.table l.lines l.memo)
