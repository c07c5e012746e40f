use borrow.Author.Rules.{rules}
use Rattle.settle.proofs.LoopLaws.{Growing_start, Growing_there, Growing_turn, Growing_end}
use Rattle.settle.proofs.grow.Goals as goal

pub loop-n-init : goal.loop-n-init
loop-n-init c = Growing_start _ _ _ _ _ (search rules) (search rules) (search rules) (search rules) (search rules)

pub next_page-front-requires : goal.next_page-front-requires
next_page-front-requires c = search Growing_there

pub loop-n-preserved : goal.loop-n-preserved
loop-n-preserved c = search Growing_turn

pub returns : goal.returns
returns c = Growing_end c.loop-n.invariant c.loop-n-test.false
