use native.Mathlib.Omega.{arith}
use Rattle.latest_fixes.proofs.FixLaws.{hold_seated, hold_within}
use Rattle.latest_fixes.proofs.hold.Goals as goal

pub returns-in-Some : goal.returns-in-Some
returns-in-Some c =
    let inside = hold_within c.args.seats.now c.args.radio c.args.fixes.now c.args.fix c.seat_of.ensures c.in-Some.is c.requires.1 in
    hold_seated c.args.seats.now c.args.radio c.args.fixes.now c.args.fix c.seat_of.ensures c.in-Some.is (omega (arith, inside, c.told-fixes))
