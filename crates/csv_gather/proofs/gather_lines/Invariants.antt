use Prim.Native.Nat.{◌-◌}
use lib.ListN.{length}
use Rattle.csv_gather.proofs.GatherLaws.{Gathering}
use Rattle.csv_gather.proofs.gather_lines.Given as goal

-- Each turn takes a line off the rest of the file and keeps it among the least.
abbrev pub invariant-loop-at : goal.invariant-loop-at
invariant-loop-at l = Gathering l.file l.from l.table l.at l.line

abbrev pub decreases-loop-at : goal.decreases-loop-at
decreases-loop-at l = length l.file - l.at
