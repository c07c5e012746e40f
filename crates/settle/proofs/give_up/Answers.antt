use borrow.Author.Rules.{rules}
use Rattle.settle.proofs.LoopLaws.{Giving_start, Giving_below, Giving_turn, Giving_end}
use Rattle.settle.proofs.give_up.Goals as goal

pub loop-i-init : goal.loop-i-init
loop-i-init c = (search rules, Giving_start _ _ _ _ _ (search rules) (search rules) (search rules))

pub free_page-requires : goal.free_page-requires
free_page-requires c = (search rules, Giving_below c.loop-i.invariant.1 c.loop-i-test.true)

pub loop-i-preserved : goal.loop-i-preserved
loop-i-preserved c = (search rules, search Giving_turn)

pub returns : goal.returns
returns c = Giving_end c.loop-i.invariant.1 c.loop-i-test.false
