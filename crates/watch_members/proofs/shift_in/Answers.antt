use Rattle.std.proofs.Common.{sym, ◌∙◌}
use Rattle.desk.specs.Views.{rect_of}
use Rattle.watch_members.proofs.NumbersLaws.{none_Shifted}
use Rattle.watch_members.proofs.ReachLaws.{void_across, void_up}
use Rattle.watch_members.proofs.shift_in.Goals as goal

pub returns-then-is_void : goal.returns-then-is_void
returns-then-is_void c = let a = c.args in
    none_Shifted (rect_of a.area) a.easts.now a.norths.now a.numbers.now (void_across (rect_of a.area) c.is_void.ensures c.if-is_void.true) c.shift_none.ensures

pub returns-then-is_void-2 : goal.returns-then-is_void-2
returns-then-is_void-2 c = let a = c.args in
    none_Shifted (rect_of a.area) a.easts.now a.norths.now a.numbers.now (void_up (rect_of a.area) c.is_void-2.ensures c.if-is_void-2.true) c.shift_none-then-is_void-2.ensures

pub reach_of-across-requires : goal.reach_of-across-requires
reach_of-across-requires c = sym c.is_void.ensures ∙ c.if-is_void.false

pub reach_of-up-requires : goal.reach_of-up-requires
reach_of-up-requires c = sym c.is_void-2.ensures ∙ c.if-is_void-2.false

pub returns : goal.returns
returns c = c.shift_reached.ensures
