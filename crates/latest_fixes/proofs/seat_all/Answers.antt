use native.Mathlib.Omega.{arith}
use borrow.Author.Rules.{rules}
use Rattle.latest_fixes.proofs.SeatLaws.{Seating_turn, radio_small}
use Rattle.latest_fixes.proofs.seat_all.Goals as goal

pub bounds-seats-radios : goal.bounds-seats-radios
bounds-seats-radios c = omega (arith, radio_small c.args.radios.now c.loop-i.i c.loop-i-test.true c.requires.2)

pub loop-i-preserved : goal.loop-i-preserved
loop-i-preserved c =
    let small = radio_small c.args.radios.now c.loop-i.i c.loop-i-test.true c.requires.2 in
    Seating_turn _ _ c.requires.1 c.loop-i-test.true c.loop-i.invariant (search rules) (omega (arith, small)) (search rules)
