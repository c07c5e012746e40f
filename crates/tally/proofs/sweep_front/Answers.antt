use mathlib.Core.Path.{ap}
use Rattle.cell_last.specs.Settling.{desk_grid}
use Rattle.tally.proofs.TickLaws.{front_place, front_asks, front_laid}
use Rattle.tally.proofs.sweep_front.Goals as goal

pub swept_at-chain-requires : goal.swept_at-chain-requires
swept_at-chain-requires c = front_place c.requires

pub settled_last-desk-requires : goal.settled_last-desk-requires
settled_last-desk-requires c = front_asks c.requires c.swept_at-chain.ensures.at_hand (ap desk_grid c.swept_at-chain.ensures.kept)

pub returns-clause-laid : goal.returns-clause-laid
returns-clause-laid c = λ x. front_laid x c.swept_at-chain.ensures.at_hand (ap desk_grid c.swept_at-chain.ensures.kept) c.settled_last-desk.ensures
