use Rattle.boxes.proofs.StripesLaws.{seat_east, seat_north}
use Rattle.sound_desk.proofs.FewLaws.{seated, few_start, few_full, few_turn, few_end}
use borrow.Author.Rules.{rules}
use Rattle.sound_desk.proofs.few_sound.Goals as goal

pub loop-i-init : goal.loop-i-init
loop-i-init c = few_start _ _

pub box_index-k-requires : goal.box_index-k-requires
box_index-k-requires c = let s = seated c.args.easts c.args.norths c.args.n c.args.waiting.now c.requires c.told-waiting c.boxes_of-at.ensures in
    (seat_east s (search rules), seat_north s (search rules))

pub returns-then-others-ge-MOST_IN_BOX : goal.returns-then-others-ge-MOST_IN_BOX
returns-then-others-ge-MOST_IN_BOX c = let s = seated c.args.easts c.args.norths c.args.n c.args.waiting.now c.requires c.told-waiting c.boxes_of-at.ensures in
    few_full s (c.loop-i.invariant.so _ _ s) (search rules) c.box_index-k.ensures.0 (search rules)

pub loop-i-preserved : goal.loop-i-preserved
loop-i-preserved c = search few_turn

pub returns : goal.returns
returns c = let s = seated c.args.easts c.args.norths c.args.n c.args.waiting.now c.requires c.told-waiting c.boxes_of-at.ensures in
    few_end s (c.loop-i.invariant.so _ _ s) (search rules)
