use Rattle.latest_places.proofs.TellLaws.{entry_told}
use Rattle.latest_places.proofs.EveryKeeper.tell.Goals as goal

pub returns : goal.returns
returns c = entry_told c.args.table.now c.hold.new.table c.args.entry c.hold.ensures
