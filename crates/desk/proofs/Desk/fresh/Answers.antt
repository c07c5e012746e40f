use Rattle.desk.proofs.FreshLaws.{fresh_desk}
use Rattle.desk.proofs.Desk.fresh.Goals as goal

pub returns : goal.returns
returns c = search fresh_desk
