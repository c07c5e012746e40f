use Rattle.lists.proofs.TestsLaws.{Each-get_or}
use Rattle.page.specs.Buffer.{pages_of}
use Rattle.sweep.proofs.SweepLaws.{chain_begins, chain_start, chain_Ready, chain_turn, chain_end}
use Rattle.sweep.proofs.sweep_pages.Goals as goal

pub loop-p-init : goal.loop-p-init
loop-p-init c = rw c.clear.ensures (chain_start _ _ c.args.pages.now (pages_of c.args.chain))

pub sweep_page-at-requires : goal.sweep_page-at-requires
sweep_page-at-requires c =
    let ready = chain_begins _ c.args.marks.now _ c.requires.0.2 c.requires.2 in
    (Each-get_or _ _ c.loop-p.p-index 0 c.requires.0.1 c.loop-p-test.true, c.requires.1, chain_Ready c.args.pages.now (pages_of c.args.chain) c.loop-p-test.true ready c.loop-p.invariant)

pub loop-p-preserved : goal.loop-p-preserved
loop-p-preserved c =
    let ready = chain_begins _ c.args.marks.now _ c.requires.0.2 c.requires.2 in
    chain_turn c.args.pages.now (pages_of c.args.chain) c.loop-p-test.true ready c.loop-p.invariant c.sweep_page-at.ensures

pub returns : goal.returns
returns c = chain_end _ _ _ _ c.loop-p.invariant c.loop-p-test.false
