use borrow.Author.Rules.{rules}
use Rattle.box_due.proofs.DueLaws.{row_start, row_turn, row_end}
use Rattle.box_due.proofs.fullest_in_row.Goals as goal

pub loop-east-init : goal.loop-east-init
loop-east-init c = row_start _ _ _ (search rules)

pub loop-east-preserved : goal.loop-east-preserved
loop-east-preserved c = search row_turn

pub returns : goal.returns
returns c = (search rules, search row_end)
