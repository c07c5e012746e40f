use mathlib.Core.Path.{◌≡◌}
use lib.ListN.{drop}
use Rattle.lists.specs.Parts.{tab}
use Rattle.lists.specs.Tests.{all}
use Rattle.page.specs.Page.{entry_at}
use Rattle.sound_page.specs.PageTest.{belongs}
use Rattle.sound_page.proofs.all_belong.Given as goal

-- What is left passes exactly where all pass.
abbrev pub invariant-loop-i : goal.invariant-loop-i
invariant-loop-i l = all (belongs l.highest l.s) (drop l.i (tab l.n (entry_at l.page))) ≡ all (belongs l.highest l.s) (tab l.n (entry_at l.page))
