use borrow.Author.Rules.{rules}
use Rattle.boxes.proofs.BoxLaws.{Passed_start, Passed_turn, Passed_end}
use Rattle.boxes.proofs.stripe_of.Goals as goal

pub loop-cut-init : goal.loop-cut-init
loop-cut-init c = Passed_start _ _

pub loop-cut-preserved : goal.loop-cut-preserved
loop-cut-preserved c = search (Passed_turn, rules)

pub returns : goal.returns
returns c = search (Passed_end, rules)
