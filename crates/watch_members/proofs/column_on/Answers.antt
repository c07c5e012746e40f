use Rattle.std.proofs.Common.{refl, arith, rules, length-set, ◌∙◌}
use Rattle.range.proofs.ListLaws.{on_radios}
use Rattle.watch_members.proofs.NumbersLaws.{filled_none, filled_turn, filled_end}
use Rattle.watch_members.proofs.column_on.Goals as goal

pub loop-i-init : goal.loop-i-init
loop-i-init c = (search rules, filled_none)

pub offset_bounds-column-radios : goal.offset_bounds-column-radios
offset_bounds-column-radios c = let r = on_radios c.args.radios.now c.args.n c.loop-i.i (search rules) c.requires.0 c.loop-i-test.true c.requires.1 in
    record { fits = omega arith }

pub bounds-column-radios : goal.bounds-column-radios
bounds-column-radios c = let r = on_radios c.args.radios.now c.args.n c.loop-i.i (search rules) c.requires.0 c.loop-i-test.true c.requires.1 in
    search rules

pub loop-i-preserved : goal.loop-i-preserved
loop-i-preserved c = let size = c.loop-i.invariant.0 in (length-set _ _ _ ∙ size, filled_turn _ c.loop-i.invariant.1 (search rules) refl)

pub returns : goal.returns
returns c = filled_end c.loop-i.invariant.1 (search rules)
