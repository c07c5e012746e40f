use Rattle.std.proofs.Common.{rules, length-set, ◌∙◌}
use Rattle.watch_members.proofs.AreasLaws.{areas_end}
use Rattle.watch_members.proofs.NumbersLaws.{filled_none, filled_turn, filled_end}
use Rattle.watch_members.proofs.lay_areas.Goals as goal

pub loop-w-init : goal.loop-w-init
loop-w-init c = (search rules, filled_none)

pub loop-w-preserved : goal.loop-w-preserved
loop-w-preserved c = (length-set _ _ _ ∙ c.loop-w.invariant.0, filled_turn _ c.loop-w.invariant.1 (search rules) c.bare.ensures)

pub returns-clause-laid : goal.returns-clause-laid
returns-clause-laid c = areas_end _ (search rules) c.loop-w.invariant.0 (filled_end c.loop-w.invariant.1 (search rules))
