use mathlib.Core.Path.{refl}
use Rattle.tally.proofs.HandLaws.{place_asks, place_gives}
use Rattle.tally.proofs.swept_at.Goals as goal

pub sweep_chain-lines-requires : goal.sweep_chain-lines-requires
sweep_chain-lines-requires c = place_asks c.requires refl c.read_chain-chain.result c.read_chain-chain.ensures

pub returns-clause-at_hand : goal.returns-clause-at_hand
returns-clause-at_hand c = λ x. place_gives x refl c.read_chain-chain.result c.read_chain-chain.ensures c.sweep_chain-lines.ensures
