use mathlib.Core.Path.{◌≡◌}
use lib.ListN.{take}
use Rattle.page.specs.Buffer.{entries_on}
use Rattle.sweep.specs.Sweep.{rows_in, state_of, begun, walked}
use Rattle.sweep.proofs.sweep_pages.Given as goal

-- The entries on the pages read so far are walked.
abbrev pub invariant-loop-p : goal.invariant-loop-p
invariant-loop-p l = state_of l.at l.table l.marks ≡ walked (rows_in l.lines) (begun l.fn.marks) (entries_on l.pages (take l.p-index l.p-items))
