use mathlib.Core.Path.{ap, ◌∙◌}
use Rattle.sound_directory.proofs.LoopLaws.{pass_start, pass_turn, pass_end}
use Rattle.sound_directory.proofs.is_unused.Goals as goal

pub loop-slot-init : goal.loop-slot-init
loop-slot-init g c = pass_start _ _

pub loop-slot-preserved : goal.loop-slot-preserved
loop-slot-preserved g c =
    pass_turn _ _ c.slot-item.result c.loop-slot.invariant c.loop-slot-test.true
    (c.eq-so.ensures ∙ ap (λ x. g.T.PartialEq.eq x c.args.unused) c.slot-item.is)

pub returns : goal.returns
returns g c = pass_end _ _ c.loop-slot.invariant c.loop-slot-test.false
