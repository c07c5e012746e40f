use Rattle.lists.specs.Parts.{tab}
use Rattle.page.specs.Page.{entry_at}
use Rattle.walk.proofs.tell_page.Given as goal

abbrev pub invariant-loop-i : goal.invariant-loop-i
invariant-loop-i g l = g.K.Keeper.tells l.keeper l.initial.table (tab l.i (entry_at l.page)) l.table
