use Rattle.std.proofs.Common.{rules}
use Rattle.desk.specs.Views.{rect_of}
use Rattle.watch_members.specs.Members.{place_at}
use Rattle.watch_members.proofs.NumbersLaws.{Changed_start, Changed_room, Changed_end, shift_turn}
use Rattle.watch_members.proofs.ReachLaws.{reached_both}
use Rattle.watch_members.proofs.shift_reached.Goals as goal

pub loop-i-init : goal.loop-i-init
loop-i-init c = Changed_start _ _ (search rules)

pub with_bit-requires : goal.with_bit-requires
with_bit-requires c = Changed_room c.loop-i.invariant c.loop-i-test.true c.requires.1

pub loop-i-preserved : goal.loop-i-preserved
loop-i-preserved c = let a = c.args in
    shift_turn (rect_of a.area) a.easts.now a.norths.now a.numbers.now c.loop-i.invariant (search rules)
    (reached_both (rect_of a.area) (place_at a.easts.now a.norths.now c.loop-i.i) (c.is_reached-in_easts.ensures _ c.requires.2) (c.is_reached-in_norths.ensures _ c.requires.3))
    c.with_bit.ensures

pub returns : goal.returns
returns c = Changed_end c.loop-i.invariant (search rules)
