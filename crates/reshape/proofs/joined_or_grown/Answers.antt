use mathlib.Core.Path.{refl}
use native.Mathlib.Omega.{arith}
use Rattle.desk.specs.Views.{slots_in}
use Rattle.cell_last.proofs.MovedLaws.{loose_takes}
use Rattle.cell_last.proofs.MidwayLaws.{midway_loose}
use Rattle.reshape.proofs.WholeLaws.{lasts, lone_asks, lone_returns, nears, near_returns}
use Rattle.reshape.proofs.joined_or_grown.Goals as goal

pub take_out-requires : goal.take_out-requires
take_out-requires c = loose_takes (midway_loose c.requires.2)

pub overflow_sub-others : goal.overflow_sub-others
overflow_sub-others c = let h = loose_takes (midway_loose c.requires.2) in omega (arith, h.1)

pub shared_ref_as_front-find_neighbour : goal.shared_ref_as_front-find_neighbour
shared_ref_as_front-find_neighbour c = let h = loose_takes (midway_loose c.requires.2) in omega (arith, h.2)

pub find_neighbour-requires : goal.find_neighbour-requires
unfolding slots_in
find_neighbour-requires c = lone_asks c.args.desk.now.parts.frame c.requires.2 refl c.take_out.ensures c.len.ensures.count c.requires.1

pub hand_last-desk-requires : goal.hand_last-desk-requires
hand_last-desk-requires c = (c.requires.0, lasts c.args.desk.now.parts.frame c.requires.2 refl c.take_out.ensures)

pub returns-in_default-clause-laid : goal.returns-in_default-clause-laid
unfolding slots_in
returns-in_default-clause-laid c = λ x.
    lone_returns c.args.desk.now.parts.frame x refl c.take_out.ensures c.len.ensures.count c.requires.1 c.find_neighbour.ensures c.in_default.is c.hand_last-desk.ensures

pub join-requires : goal.join-requires
unfolding slots_in
join-requires c = (c.requires.0, nears c.args.desk.now.parts.frame c.requires.2 refl c.take_out.ensures c.len.ensures.count c.requires.1 c.find_neighbour.ensures _ c.in-Some.is)

pub returns-clause-laid : goal.returns-clause-laid
unfolding slots_in
returns-clause-laid c = λ x.
    near_returns c.args.desk.now.parts.frame x refl c.take_out.ensures c.len.ensures.count c.requires.1 c.find_neighbour.ensures _ c.in-Some.is c.join.ensures.laid
