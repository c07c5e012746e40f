use Rattle.spreadsheet_read.proofs.SigningLaws.{Signing}
use Rattle.spreadsheet_read.proofs.sign_on_all.Given as goal

abbrev pub invariant-loop-i : goal.invariant-loop-i
invariant-loop-i l = Signing l.table l.initial.desk l.initial.pages l.desk l.pages l.i
