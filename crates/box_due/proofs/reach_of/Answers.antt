use borrow.Author.Rules.{rules}
use native.Mathlib.Omega.{arith}
use Rattle.box_due.proofs.ReachLaws.{Reached_start, Reached_turn, Reached_end}
use Rattle.box_due.proofs.reach_of.Goals as goal

pub loop-cut-init : goal.loop-cut-init
loop-cut-init c = Reached_start _ _ (omega arith)

pub loop-cut-preserved : goal.loop-cut-preserved
loop-cut-preserved c = search (Reached_turn, rules)

pub returns : goal.returns
returns c = search (Reached_end, rules)
