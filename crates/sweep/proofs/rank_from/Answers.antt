use borrow.Author.Rules.{rules}
use Rattle.sweep.proofs.LinesLaws.{walk_past, walk_here, walk_on}
use Rattle.sweep.proofs.rank_from.Goals as goal

pub returns-then-radio-lines : goal.returns-then-radio-lines
returns-then-radio-lines c = (search walk_here, search rules)

pub loop-at-preserved : goal.loop-at-preserved
loop-at-preserved c = search walk_on

pub returns : goal.returns
returns c = (walk_past _ _ c.loop-at.invariant (search rules), search rules)
