use Prim.Native.Nat.{◌+◌, ◌-◌}
use Rattle.terms.specs.Terms.{pages}
use native.Mathlib.Omega.{arith}
use borrow.Author.Rules.{rules}
use Rattle.walk.proofs.WalkLaws.{Walking_start, Walking_lost, Walking_out, Walking_radios, Walking_turn}
use Rattle.walk.proofs.tell_cell.Goals as goal

pub loop-init : goal.loop-init
loop-init g c = Walking_start _ _ _ (g.met.K.Keeper.none c.args.keeper.now c.args.table.now) c.requires

pub returns-then-not-is_there : goal.returns-then-not-is_there
returns-then-not-is_there g c = Walking_lost _ _ _ c.loop.invariant (search rules)

pub tell_page-requires : goal.tell_page-requires
tell_page-requires g c = (search rules, Walking_radios _ _ _ c.loop.invariant {rest = pages - (c.loop.counter + 1)} (omega arith) (search rules))

pub loop-preserved : goal.loop-preserved
loop-preserved g c = Walking_turn _ _ _ c.loop.invariant (omega arith) (search rules) (g.met.K.Keeper.more c.args.keeper.now) c.tell_page.ensures c.next_page-p.ensures

pub returns : goal.returns
returns g c = Walking_out _ _ _ c.loop.invariant (omega arith)
