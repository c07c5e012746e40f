use mathlib.Core.Path.{refl}
use Rattle.watching.proofs.WatchingLaws.{clear_refused, clear_done}
use Rattle.watching.proofs.clear_sound.Goals as goal

pub returns-in-Err : goal.returns-in-Err
returns-in-Err c = λ b s. clear_refused c.args.desk.now b s _ _ c.in-Err.ensures.refused c.refused.ensures

pub returns : goal.returns
returns c = λ b s. clear_done c.args.desk.now b s _ c.in-Ok.ensures.passed refl c.numbered.ensures
