use mathlib.Core.Path.{refl}
use native.Mathlib.Omega.{arith}
use Rattle.desk.specs.Views.{slots_in}
use Rattle.cell_split.proofs.SidesLaws.{split_numbers, split_asks, split_cuts, split_laid}
use Rattle.cell_split.proofs.split.Goals as goal

pub unused_number-number-requires : goal.unused_number-number-requires
unfolding slots_in
unused_number-number-requires c = (split_numbers c.requires.1).1

pub shared_ref_as_front-unused_number : goal.shared_ref_as_front-unused_number
shared_ref_as_front-unused_number c = let q = split_numbers c.requires.1 in omega (arith, q.0)

pub settle_sides-sides-requires : goal.settle_sides-sides-requires
unfolding slots_in
settle_sides-sides-requires c = (c.requires.0, c.unused_number-number.ensures, c.requires.1)

pub split_cells-requires : goal.split_cells-requires
split_cells-requires c = search split_asks

pub overflow_add-n : goal.overflow_add-n
overflow_add-n c = let q = split_asks c.requires.1 in omega (arith, q.2)

pub cut_frame-requires : goal.cut_frame-requires
cut_frame-requires c = split_cuts c.requires.1 refl c.with_cells-moved.ensures

pub returns : goal.returns
unfolding slots_in
returns c = λ x.
    split_laid x refl c.with_cells-moved.ensures c.settle_sides-sides.result c.unused_number-number.ensures (c.settle_sides-sides.ensures x) c.split_cells.ensures refl c.cut_frame.ensures
