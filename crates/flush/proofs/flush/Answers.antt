use mathlib.Core.Path.{ap, ◌∙◌}
use borrow.Author.Rules.{rules}
use Rattle.cell_last.specs.Settling.{desk_grid}
use Rattle.flush.specs.Flush.{desk_waiting}
use Rattle.flush.proofs.FlushLaws.{home_asks, homed, homed_not, part_asks, reshape_wants, flush_returns}
use Rattle.flush.proofs.flush.Goals as goal

pub home_of-requires : goal.home_of-requires
home_of-requires c = home_asks c.requires.0 c.args.m c.requires.1

pub returns-in_default-clause-laid : goal.returns-in_default-clause-laid
returns-in_default-clause-laid c = λ x. homed_not x c.args.m c.home_of.ensures c.in_default.is

pub parted-sides-requires : goal.parted-sides-requires
parted-sides-requires c = let k = part_asks c.requires.0 in (k.0, k.1, search rules, k.2, k.3)

pub entered-chain-requires : goal.entered-chain-requires
entered-chain-requires c = homed c.requires.0 c.args.m c.home_of.ensures c.in-Some.is c.parted-sides.ensures.0

pub reshape-requires : goal.reshape-requires
reshape-requires c =
    reshape_wants c.requires.0 c.args.m c.home_of.ensures c.in-Some.is c.parted-sides.ensures.0 _ _ _ c.entered-chain.ensures.at_hand (ap desk_grid c.entered-chain.ensures.kept)

pub returns-clause-laid : goal.returns-clause-laid
returns-clause-laid c =
    λ x. flush_returns x c.args.m c.home_of.ensures c.in-Some.is c.parted-sides.ensures.0 _ _ _ c.entered-chain.ensures.at_hand (ap desk_grid c.entered-chain.ensures.kept)
    c.reshape.ensures.laid (ap desk_waiting c.reshape.ensures.kept ∙ ap desk_waiting c.entered-chain.ensures.kept ∙ c.parted-sides.ensures.1)
