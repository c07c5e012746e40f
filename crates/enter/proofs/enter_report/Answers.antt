use Rattle.enter.proofs.EnterLaws.{memo_ready, moves}
use Rattle.enter.proofs.enter_report.Goals as goal

pub placed-requires : goal.placed-requires
placed-requires c = search memo_ready

pub returns : goal.returns
returns c = moves _ _ _ c.args.report c.requires c.in-Ok.ensures.found c.entry_of.ensures c.replace.ensures (rw c.place_of-place.ensures at c.placed.ensures)
