use native.Mathlib.Omega.{arith}
use Rattle.boxes.proofs.StripesLaws.{Passing_start, Passing_here, Passing_turn, Passing_end}
use Rattle.boxes.proofs.pass_cut.Goals as goal

pub loop-i-init : goal.loop-i-init
loop-i-init c = search Passing_start

pub further-requires : goal.further-requires
further-requires c = let h = c.loop-i-test.true in
    omega (arith, Passing_here _ _ _ _ c.loop-i.invariant h, c.requires.1 c.loop-i.i h)

pub loop-i-preserved : goal.loop-i-preserved
loop-i-preserved c = search Passing_turn

pub returns : goal.returns
returns c = search Passing_end
