use Rattle.boxes.proofs.StripesLaws.{Striped_start, Striped_low, Striped_turn, Striped_end}
use borrow.Author.Rules.{rules}
use Rattle.boxes.proofs.stripes_of.Goals as goal

pub loop-cut-init : goal.loop-cut-init
loop-cut-init c = Striped_start _ _ _

pub pass_cut-requires : goal.pass_cut-requires
pass_cut-requires c = search (Striped_low, rules)

pub loop-cut-preserved : goal.loop-cut-preserved
loop-cut-preserved c = search (Striped_turn, rules)

pub returns : goal.returns
returns c = search (Striped_end, rules)
