use borrow.Author.Rules.{rules}
use Rattle.latest_places.proofs.TellLaws.{lines_start, lines_turn, line_radio}
use Rattle.latest_places.proofs.hold_lines.Goals as goal

pub loop-line-init : goal.loop-line-init
loop-line-init c = lines_start _

pub hold-requires : goal.hold-requires
hold-requires c = line_radio _ _ c.requires (search rules)

pub loop-line-preserved : goal.loop-line-preserved
loop-line-preserved c = lines_turn c.args.lines.now c.loop-line.line-index _ _ _ (search rules) c.loop-line.invariant c.hold.ensures
