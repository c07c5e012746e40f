use native.Mathlib.Omega.{arith}
use lib.ListN.{length-take}
use Rattle.memo.specs.Memo.{lines_of}
use Rattle.sweep.proofs.MarksLaws.{chain_swept}
use Rattle.sweep.proofs.sweep_chain.Goals as goal

pub sweep_pages-requires : goal.sweep_pages-requires
unfolding lines_of
sweep_pages-requires c = (c.requires.0, (omega (arith, length-take c.args.lines c.args.memo.now, c.told-memo), c.requires.1.2), c.requires.2)

pub returns : goal.returns
unfolding lines_of
returns c = (c.sweep_pages.ensures.0, chain_swept _ _ c.requires.1 c.requires.0.2 c.sweep_pages.ensures.1 c.lowered.ensures)
