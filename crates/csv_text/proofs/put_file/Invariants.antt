use lib.ListN.{length}
use Rattle.csv_text.proofs.FileLaws.{Lined}
use Rattle.csv_text.proofs.put_file.Given as goal

-- Behind the header stand the lines of the rows passed.
abbrev pub invariant-loop-i : goal.invariant-loop-i
invariant-loop-i l = Lined l.radios l.fixes (length l.radios) l.initial.buffer l.i l.buffer l.at
