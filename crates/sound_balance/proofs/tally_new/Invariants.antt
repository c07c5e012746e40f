use Rattle.desk.specs.Held.{waiting_with}
use Rattle.waiting.specs.Waiting.{reports_of}
use Rattle.sound_balance.specs.Tables.{mark_new}
use Rattle.sound_balance.proofs.TableLaws.{Adding}
use Rattle.sound_balance.proofs.DueLaws.{Belonging}
use Rattle.sound_balance.proofs.tally_new.Given as goal

-- The reports so far are added (`Adding`), and tested by what the table held before (`Belonging`).
abbrev pub invariant-loop-i : goal.invariant-loop-i
invariant-loop-i l = Adding mark_new l.initial.balance (reports_of (waiting_with l.n l.waiting)) l.i l.balance × Belonging l.initial.balance (reports_of (waiting_with l.n l.waiting)) l.i l.so l.balance
