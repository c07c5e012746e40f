use Rattle.desk.specs.Layout.{no_line}
use Rattle.sweep.proofs.LinesLaws.{stale_past, stale_other, stale_here}
use Rattle.sweep.proofs.is_stale.Goals as goal

pub returns-in_default : goal.returns-in_default
returns-in_default c = stale_past _ c.args.entry c.requires.0 c.requires.1 c.in_default.ensures.lookup.3

pub returns-then-line-entry : goal.returns-then-line-entry
returns-then-line-entry c =
    let there = c.in-Some.ensures.lookup.3 in
    stale_here _ c.args.entry c.requires.0 c.requires.1 (there.1 no_line) there.0 c.if-line-entry.true c.is_elsewhere.ensures

pub returns-else-line-entry : goal.returns-else-line-entry
returns-else-line-entry c =
    let there = c.in-Some.ensures.lookup.3 in
    stale_other _ c.args.entry c.requires.0 c.requires.1 (there.1 no_line) there.0 c.if-line-entry.false
