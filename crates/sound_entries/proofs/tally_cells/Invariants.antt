use Rattle.desk.specs.Held.{directory_in}
use Rattle.memo_index.specs.Index.{judged}
use Rattle.sound_entries.proofs.WalkLaws.{Cells}
use Rattle.sound_entries.proofs.tally_cells.Given as goal

-- The cells walked, with the rest of the round, are the whole (`Cells`).
abbrev pub invariant-loop-i : goal.invariant-loop-i
invariant-loop-i l = Cells (judged l.memo l.lines) l.pages (directory_in l.n l.cells) l.initial.balance l.balance l.counts l.i
