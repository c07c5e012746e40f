use Rattle.std.proofs.Common.{arith, rules}
use Rattle.watch_members.proofs.NumbersLaws.{Changed_start, Changed_room, Changed_end, double_turn}
use Rattle.watch_members.proofs.shift_none.Goals as goal

pub loop-i-init : goal.loop-i-init
loop-i-init c = Changed_start _ _ (search rules)

pub overflow_mul-numbers : goal.overflow_mul-numbers
overflow_mul-numbers c = let k = Changed_room c.loop-i.invariant c.loop-i-test.true c.requires.1 in
    search rules

pub loop-i-preserved : goal.loop-i-preserved
loop-i-preserved c = double_turn c.loop-i.invariant (search rules) (omega arith)

pub returns : goal.returns
returns c = Changed_end c.loop-i.invariant (search rules)
