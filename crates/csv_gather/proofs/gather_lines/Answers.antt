use Rattle.csv_gather.proofs.GatherLaws.{Gathering_start, Gathering_turn, Gathering_bad, Gathering_end, radio_least, radio_most, fewer_left}
use Rattle.csv_gather.proofs.gather_lines.Goals as goal

pub loop-at-init : goal.loop-at-init
loop-at-init c = rw c.clear.ensures (Gathering_start _ _ c.requires.0 c.requires.1)

pub returns-in_default-clause-err : goal.returns-in_default-clause-err
returns-in_default-clause-err c = Gathering_bad c.loop-at.invariant c.loop-at-test.true c.in_default.ensures

pub keep-requires : goal.keep-requires
keep-requires c = (radio_least c.loop-at.invariant c.loop-at-test.true c.in-Some.ensures, radio_most c.loop-at.invariant c.loop-at-test.true c.in-Some.ensures)

pub loop-at-smaller : goal.loop-at-smaller
loop-at-smaller c = fewer_left c.loop-at.invariant c.loop-at-test.true c.in-Some.ensures

pub loop-at-preserved : goal.loop-at-preserved
loop-at-preserved c = rw c.keep.ensures (Gathering_turn c.loop-at.invariant c.loop-at-test.true c.in-Some.ensures)

pub returns-clause-ok : goal.returns-clause-ok
returns-clause-ok c = search Gathering_end
