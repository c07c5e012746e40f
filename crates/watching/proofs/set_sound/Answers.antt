use borrow.Author.Rules.{rules}
use Rattle.desk.proofs.UniqueLaws.{Sound_ledger}
use Rattle.watching.proofs.WatchingLaws.{set_refused, set_done}
use Rattle.watching.proofs.set_sound.Goals as goal

pub returns-in-Err : goal.returns-in-Err
returns-in-Err c = λ s. set_refused c.args.desk.now c.args.pages.now s _ _ _ c.in-Err.ensures.refused c.refused.ensures

pub lay_out-requires : goal.lay_out-requires
lay_out-requires c = Sound_ledger c.requires

pub returns : goal.returns
returns c = λ s. set_done c.args.desk.now c.args.pages.now s _ _ _ c.in-Ok.ensures.passed c.put_area.ensures c.lay_out.ensures (search rules) c.numbered.ensures
