use Rattle.desk.specs.Held.{memo_in}
use Rattle.memo.specs.Memo.{lines_of}
use Rattle.memo_index.proofs.IndexLaws.{Indexing}
use Rattle.sound_balance.specs.Tables.{missed_off}
use Rattle.sound_balance.proofs.TableLaws.{Adding}
use Rattle.sound_balance.proofs.lines_due.Given as goal

-- The missed counts of the lines so far are added (`Adding`), and the lines are named (`Indexing`).
abbrev pub invariant-loop-i : goal.invariant-loop-i
invariant-loop-i l = Adding missed_off l.initial.balance (lines_of (memo_in l.n l.memo)) l.i l.balance × Indexing (memo_in l.n l.memo) l.i l.lines
