use borrow.Author.Rules.{rules}
use Rattle.sound_rows.proofs.ClimbLaws.{climb_start, climb_stops, climb_fails, climb_turn, climb_end}
use Rattle.sound_rows.proofs.CodeLaws.{lines_climb}
use Rattle.sound_rows.proofs.lines_ok.Goals as goal

pub loop-line-init : goal.loop-line-init
loop-line-init c = search climb_start

pub returns-then-not-goes_on : goal.returns-then-not-goes_on
returns-then-not-goes_on c = search (lines_climb, climb_stops)

pub returns-then-not-line_ok : goal.returns-then-not-line_ok
returns-then-not-line_ok c = search (lines_climb, climb_fails)

pub loop-line-preserved : goal.loop-line-preserved
loop-line-preserved c = climb_turn c.loop-line.invariant (search rules) _ c.goes_on.ensures c.line_ok.ensures (search rules) (search rules)

pub returns : goal.returns
returns c = search (lines_climb, climb_end)
