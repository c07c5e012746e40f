use mathlib.Core.Path.{◌≡◌}
use lib.ListN.{drop}
use Rattle.lists.specs.Parts.{tab}
use Rattle.page.specs.Page.{entry_at}
use Rattle.page_layout.specs.Layout.{climb}
use Rattle.page_layout.proofs.TestLaws.{climb_on}
use Rattle.page_layout.proofs.radios_rise.Given as goal

-- The climb of what is left, from the last radio on, is the climb of all; once a radio is past the greatest number, so are all after it.
abbrev pub invariant-loop-i : goal.invariant-loop-i
invariant-loop-i l = climb_on l.i l.last (drop l.i (tab l.n (entry_at l.page))) ≡ climb l.low (tab l.n (entry_at l.page))
