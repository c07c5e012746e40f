use Rattle.flush.proofs.FlushLaws.{home_place, Entered_asks, Entered_gives}
use Rattle.flush.proofs.entered.Goals as goal

pub swept_at-chain-requires : goal.swept_at-chain-requires
swept_at-chain-requires c = search home_place

pub enter_all-lines-requires : goal.enter_all-lines-requires
enter_all-lines-requires c = Entered_asks c.args.m c.requires _ _ _ c.swept_at-chain.ensures.at_hand

pub returns-clause-at_hand : goal.returns-clause-at_hand
returns-clause-at_hand c = λ x. Entered_gives c.args.m x _ _ _ c.swept_at-chain.ensures.at_hand _ c.enter_all-lines.ensures
