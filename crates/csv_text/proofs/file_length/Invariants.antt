use Rattle.csv_text.proofs.FileLaws.{Counted}
use Rattle.csv_text.proofs.file_length.Given as goal

-- The header and the lines of the rows passed are counted.
abbrev pub invariant-loop-i : goal.invariant-loop-i
invariant-loop-i l = Counted l.radios l.fixes l.i l.total
