use Rattle.cell_last.proofs.MovedLaws.{loose_settles, hand_some, hand_puts, hand_laid}
use Rattle.cell_last.proofs.hand_last.Goals as goal

pub settle-settled-requires : goal.settle-settled-requires
settle-settled-requires c = loose_settles c.args.chain _ c.requires.1.settles c.requires.0 c.as_slice.ensures.rows c.as_slice.ensures.fits

pub overflow_sub-frame : goal.overflow_sub-frame
overflow_sub-frame c = search hand_some

pub put_last-requires : goal.put_last-requires
put_last-requires c = search hand_puts

pub returns : goal.returns
returns c = let settled = rw c.as_slice.ensures.rows at c.settle-settled.ensures in λ x. search (hand_laid x, settled)
