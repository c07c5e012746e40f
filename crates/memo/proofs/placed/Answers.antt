use Rattle.memo.proofs.MemoLaws.{used_rising, place_set, place_open}
use Rattle.memo.proofs.placed.Goals as goal

pub lookup-requires : goal.lookup-requires
lookup-requires c = used_rising c.args.n c.args.lines.now c.requires.2

pub returns-in-Ok : goal.returns-in-Ok
returns-in-Ok c = place_set c.requires.0 c.requires.2 c.in-Ok.ensures.held _ c.new.ensures

pub returns-in_default : goal.returns-in_default
returns-in_default c = place_open c.requires.0 c.requires.2 c.in_default.ensures.missing _
