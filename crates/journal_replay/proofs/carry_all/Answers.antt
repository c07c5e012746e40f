use Rattle.std.proofs.Common.{refl}
use Rattle.journal_replay.proofs.ReplayLaws.{run_start, kept_further}
use Rattle.journal_replay.proofs.carry_all.Goals as goal

pub loop-run-init : goal.loop-run-init
loop-run-init c = record { running = run_start _ _ c.requires.0 c.requires.1; kept = refl }

pub loop-run-preserved : goal.loop-run-preserved
loop-run-preserved c =
    let step = c.step-run.ensures in
    record { running = step.0; kept = kept_further _ _ _ _ _ step.2 c.loop-run.invariant.kept step.3 }
