use Prim.Native.Nat.{◌-◌}
use Rattle.terms.specs.Terms.{pages}
use Rattle.walk.proofs.WalkLaws.{Walking}
use Rattle.walk.proofs.tell_cell.Given as goal

abbrev pub invariant-loop : goal.invariant-loop
invariant-loop g l = Walking (g.K.Keeper.tells l.keeper) l.pages l.first l.initial.table l.p (pages - l.counter) l.table
