use Rattle.lists.proofs.PartsLaws.{put_none}
use Rattle.box_reports.proofs.PartingLaws.{blank_turn, blank_end}
use borrow.Author.Rules.{rules}
use Rattle.box_reports.proofs.blanked.Goals as goal

pub loop-i-init : goal.loop-i-init
loop-i-init c = put_none _ _ _

pub loop-i-preserved : goal.loop-i-preserved
loop-i-preserved c = search blank_turn

pub returns : goal.returns
returns c = blank_end _ _ c.loop-i.invariant (c.loop-i.auto.i-end c.requires.0) (search rules)
