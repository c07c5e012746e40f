use Rattle.box_due.proofs.ReachLaws.{Near_start, Near_turn, Near_end}
use borrow.Author.Rules.{rules}
use Rattle.box_due.proofs.waiting_at.Goals as goal

pub loop-i-init : goal.loop-i-init
loop-i-init c = (search rules, Near_start _ _ _)

pub loop-i-preserved : goal.loop-i-preserved
loop-i-preserved c =
    let n = c.lies_within-here.ensures in
    let i = c.loop-i.invariant in
    (search rules, Near_turn (search rules) c.requires.0 i.1 c.loop-i-test.true n.0 n.1 (search rules))

pub returns : goal.returns
returns c = search Near_end
