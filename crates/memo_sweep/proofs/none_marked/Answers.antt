use borrow.Author.Rules.{rules}
use Rattle.memo_sweep.proofs.LowerLaws.{Seen_start, Seen_turn, Seen_end}
use Rattle.memo_sweep.proofs.none_marked.Goals as goal

pub loop-mark-init : goal.loop-mark-init
loop-mark-init c = Seen_start _

pub loop-mark-preserved : goal.loop-mark-preserved
loop-mark-preserved c = search Seen_turn

pub returns : goal.returns
returns c = Seen_end c.loop-mark.invariant (search rules)
