use Rattle.std.proofs.Common.{rules}
use Rattle.watch_members.proofs.NumbersLaws.{Numbered_start, Numbered_room, Numbered_turn, Numbered_end}
use Rattle.watch_members.proofs.number_each.Goals as goal

pub loop-w-init : goal.loop-w-init
loop-w-init c = Numbered_start c.args.watches.now c.args.easts.now c.args.norths.now c.requires.1

pub shift_in-requires : goal.shift_in-requires
shift_in-requires c = (c.requires.0, Numbered_room c.args.watches.now c.args.easts.now c.args.norths.now c.loop-w.invariant c.loop-w-test.true)

pub loop-w-preserved : goal.loop-w-preserved
loop-w-preserved c = Numbered_turn c.args.watches.now c.args.easts.now c.args.norths.now c.loop-w.invariant c.loop-w-test.true (search rules) c.area_of-area.ensures c.shift_in.ensures

pub returns : goal.returns
returns c = Numbered_end c.args.watches.now c.args.easts.now c.args.norths.now c.loop-w.invariant (search rules)
