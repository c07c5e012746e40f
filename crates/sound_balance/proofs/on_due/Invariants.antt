use Rattle.sound_balance.proofs.DueLaws.{OnDue}
use Rattle.sound_balance.proofs.on_due.Given as goal

-- The radios so far are written (`OnDue`).
abbrev pub invariant-loop-i : goal.invariant-loop-i
invariant-loop-i l = OnDue (record { n = l.n; radios = l.radios }) l.initial.balance l.i l.balance
