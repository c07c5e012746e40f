use borrow.Author.Rules.{rules}
use mathlib.Core.Path.{refl}
use native.Mathlib.Omega.{arith}
use Rattle.desk.specs.Held.{waiting_with}
use Rattle.waiting.proofs.WaitingLaws.{every_size}
use Rattle.box_due.proofs.CrowdingLaws.{Crowding_end, CrowdingAt_start, CrowdingAt_room, CrowdingAt_turn}
use Rattle.boxes.proofs.StripesLaws.{Seated, seat_east, seat_north}
use Rattle.box_due.proofs.crowd_of.Goals as goal

pub loop-i-init : goal.loop-i-init
loop-i-init c = CrowdingAt_start _ _

pub box_index-k-requires : goal.box_index-k-requires
box_index-k-requires c = let s : Seated _ _ (waiting_with _ c.args.waiting.now) c.boxes_of-at.result = record { size = every_size _ (search rules); fits = c.requires.0; east_cuts = c.requires.1; north_cuts = c.requires.2; boxes = c.boxes_of-at.ensures } in
    (seat_east s c.loop-i-test.true, seat_north s c.loop-i-test.true)

pub overflow_add-crowd : goal.overflow_add-crowd
overflow_add-crowd c = let s : Seated _ _ (waiting_with _ c.args.waiting.now) c.boxes_of-at.result = record { size = every_size _ (search rules); fits = c.requires.0; east_cuts = c.requires.1; north_cuts = c.requires.2; boxes = c.boxes_of-at.ensures } in
    omega (arith, CrowdingAt_room c.loop-i.invariant c.box_index-k.ensures.0 c.loop-i-test.true _ _ _ s refl)

pub loop-i-preserved : goal.loop-i-preserved
loop-i-preserved c = search CrowdingAt_turn

pub returns : goal.returns
returns c = let s : Seated _ _ (waiting_with _ c.args.waiting.now) c.boxes_of-at.result = record { size = every_size _ (search rules); fits = c.requires.0; east_cuts = c.requires.1; north_cuts = c.requires.2; boxes = c.boxes_of-at.ensures } in
    Crowding_end _ (c.loop-i.invariant.so _ _ _ s refl) s.size s.fits (search rules)
