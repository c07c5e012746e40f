use mathlib.Core.Path.{◌≡◌}
use Rattle.lists.specs.Parts.{tab}
use Rattle.page.specs.Page.{entry_at}
use Rattle.sweep.specs.Sweep.{rows_in, state_of, walked}
use Rattle.sweep.proofs.sweep_page.Given as goal

-- The entries read so far are walked.
abbrev pub invariant-loop-i : goal.invariant-loop-i
invariant-loop-i l = state_of l.at l.table l.marks ≡ walked (rows_in l.lines) (state_of l.fn.from l.fn.table l.fn.marks) (tab l.i (entry_at l.page))
